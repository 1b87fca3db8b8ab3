use Rattle.ps_linkfile.proofs.Vocabulary.{length-replicate, ◌≡◌, ◌∙◌, ℕ, length, replicate, refl, ap, arith, SLOT_COUNT}
use Rattle.ps_linkfile.proofs.Whole.{part_len, all_pairs_len, stored_parts, dictionary_is}
use Rattle.ps_linkfile.proofs.dictionary.dictionary_of.Goals as goal

pub store-requires-3 : goal.store-requires-3
store-requires-3 g c =
    let tail_256 : length c.tail.result.now ≡ 256 =
    ap (λ xs. length xs) c.tail.ensures
    ∙ part_len c.args.plan.now.host 256 512 (omega (arith, c.requires.ready.host)) in
    omega (
      arith,
      tail_256,
      c.store.ensures.length,
      c.store-2.ensures.length,
      length-replicate {A = ℕ} 512 0,
    )

pub returns : goal.returns
returns g c =
    let plan = c.args.plan.now in
    let pairs_64 : length c.pairs_of-pairs.result ≡ 64 =
    rw c.pairs_of-pairs.ensures (all_pairs_len _ _) in
    let sixteen : length c.names.result.now ≡ SLOT_COUNT =
    rw c.names.ensures c.requires.ready.names in
    let names_128 : length c.as_flattened.result.now ≡ 128 =
    omega (arith, c.as_flattened.ensures.len, sixteen) in
    let names_are = rw c.names.ensures at c.as_flattened.ensures.value in
    let tail_256 : length c.tail.result.now ≡ 256 =
    rw c.tail.ensures (part_len plan.host 256 512 (omega (arith, c.requires.ready.host))) in
    dictionary_is plan.order plan.names plan.host plan.sources _ _ _ _ (stored_parts (replicate
    512 0) _ _ _ _ _ (replicate 64 0) _ (length-replicate {A = ℕ} 512 0) refl pairs_64 names_128
    tail_256 c.store.ensures.stored c.store-2.ensures.stored c.store-3.ensures.stored)
    (rw (c.order.ensures, c.sources.ensures.sources) at c.pairs_of-pairs.ensures)
    names_are c.tail.ensures
