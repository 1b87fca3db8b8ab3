use Rattle.ps_linkfile.proofs.Vocabulary.{min, range_with_len, blocks, patched_or_zero, ◌≡◌, ◌∙◌, ◌*◌, ◌+◌, ◌++◌, ◌-◌, ◌<◌, length, map, ap, refl, sym, arith}
use Rattle.ps_writing.proofs.Prefixes.{appends_twice, prefix_more, on_err_always}
use Rattle.ps_linkfile.proofs.Images.{image_is, image_split}
use Rattle.ps_writing.proofs.Rising.{rises_then}
use Rattle.ps_linkfile.proofs.writing.write_code.Goals as goal

pub loop-patcher-preserved : goal.loop-patcher-preserved
loop-patcher-preserved g c =
    let n = length c.args.code.now in
    let (at, inv) = c.loop-patcher.invariant in
    let f = patched_or_zero c.args.order c.args.code.now c.args.edits.now in
    let some : c.fill.result ≡ min 512 (n - min (512 * at) n) =
    rw inv.is at c.fill.ensures.count in
    let below : 512 * at < n = omega (arith, some, c.loop-patcher-test.true) in
    let here : min (512 * at) n ≡ 512 * at = omega (arith, below) in
    let block = image_is f (512 * at) 512 c.fill.new.block (omega arith)
    (rw (inv.is, here) at c.fill.ensures.block) in
    let next : 512 * at + c.fill.result ≡ min (512 * (at + 1)) n = omega (arith, some, below) in (
      at + 1,
      record {
        within = omega (arith, below);
        is = rw (inv.is, here, next) at c.fill.ensures.moves;
        written = rw (image_split f 0 (512 * at) 512 (512 * (at + 1)) (512 * at) (omega arith)
            (omega arith))
            (appends_twice _ _ _ _ _ inv.written
            (rw block at c.in_ok-write_all.ensures.all));
        rises = rises_then _ _ _ (512 * at) at (length c.fill.new.block)
            (min 1 (length c.fill.new.block)) (512 * (at + 1))
            (at + 1) inv.rises c.write_all.ensures.writes (omega arith) (omega arith);
        none = c.in_ok-write_all.ensures.ok ∙ inv.none;
      },
    )

pub returns-in_err-write_all-clause-prefix : goal.returns-in_err-write_all-clause-prefix
returns-in_err-write_all-clause-prefix g c =
    let n = length c.args.code.now in
    let (at, inv) = c.loop-patcher.invariant in
    let f = patched_or_zero c.args.order c.args.code.now c.args.edits.now in
    let some : c.fill.result ≡ min 512 (n - min (512 * at) n) =
    rw inv.is at c.fill.ensures.count in
    let below : 512 * at < n = omega (arith, some, c.loop-patcher-test.true) in
    let here : min (512 * at) n ≡ 512 * at = omega (arith, below) in
    let block = image_is f (512 * at) 512 c.fill.new.block (omega arith)
    (rw (inv.is, here) at c.fill.ensures.block) in
    let whole = 512 * blocks n in
    let rest = map f (range_with_len (512 * at + 512) (whole - (512 * at + 512))) in
    on_err_always c.from_residual.result (prefix_more _ _ _ (map f (range_with_len 0 (512 * at)))
    (map f (range_with_len (512 * at) 512)) rest _ (ap (λ us. map f (range_with_len 0 (512 * at))
    ++ us) (sym (image_split f (512 * at) 512 (whole - (512 * at + 512)) (whole - 512 * at)
    (512 * at + 512) (omega (arith, below)) refl)) ∙ sym (image_split f 0 (512 * at)
    (whole - 512 * at) whole (512 * at) (omega (arith, below)) (omega arith))) inv.written
    (rw block at c.in_err-write_all.ensures.prefix))
