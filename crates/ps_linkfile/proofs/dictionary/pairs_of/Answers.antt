use Rattle.ps_linkfile.proofs.Vocabulary.{Segment, blocks, ◌≡◌, ◌+◌, ◌<◌, ℕ, List, length, get_or, arith, rules}
use Rattle.ps_linkfile.proofs.Pairs.{pairs_none, pairs_more, pairs_done}
use Rattle.ps_linkfile.proofs.Views.{here, start_at}
use Rattle.ps_linkfile.proofs.dictionary.pairs_of.Goals as goal

pub loop-k-init : goal.loop-k-init
loop-k-init c = (1, 0, pairs_none _ c.args.sources.now c.requires.slots)

pub loop-k-preserved : goal.loop-k-preserved
loop-k-preserved c =
    let ss : List Segment = c.args.sources.now in
    let k : ℕ = c.loop-k.k in
    let lt : k < length ss = c.loop-k-test.true in
    let v : Segment = c.index-sources-k.result in
    let is : v ≡ get_or ss k v = c.index-sources-k.is in
    let start = get_or c.args.starts.now k 0 in
    let (block, from, so_far) = c.loop-k.invariant in
    let slot = c.slot.ensures in
    let code = c.code.ensures in (
      block + blocks (length v.code),
      v.slot + 1,
      pairs_more _ ss k c.loop-k.pairs c.put.new.bytes c.put-in-loop-k.new.bytes block from start v
          (here ss k v lt is) (start_at ss k v lt is c.args.starts.now c.requires.starts) so_far
          (rw (← slot) (search rules)) (rw (← slot, ← code) (search rules)),
    )

pub returns : goal.returns
returns c = search (arith, pairs_done)
