use Rattle.ps_reading.proofs.Vocabulary.{◌≡◌, ◌==◌, drop, option_and_then, option_map, enumerate_from, find, slice_get, request_of, queued_request}
use Rattle.ps_reading.proofs.reading.names.queued_request.Given as goal

-- the slot is the first of those that are left, where it is one of all
abbrev pub invariant-loop-k : goal.invariant-loop-k
invariant-loop-k l =
    queued_request l.queue l.empty l.slot
    ≡ option_and_then (λ k. option_map (λ g. request_of g l.slot) (slice_get l.queue k.0))
    (find (λ k. k.1 == l.slot) (enumerate_from l.k (drop l.k l.empty)))
