-- What is known of a segment of a link, by its slot.
use Rattle.ps_laws.proofs.Vocabulary.{◌≡◌, ℕ, List, None, reading_fault, segments, IsOfLink, Segment, order_of, IsSegment, all_of_link}
use Rattle.ps_laws.proofs.RequestedUnits.{in_segments}
use Rattle.ps_lists.proofs.Items.{of_all}

pub of_link : (host : List ℕ) (libs : List (List ℕ)) → reading_fault host libs ≡ None
    → (s : Segment) → IsSegment (order_of host) host libs s
    → IsOfLink (order_of host) host libs s
of_link host libs read s is =
    let i = in_segments (order_of host) host libs s.slot s is.0 is.1 in
    of_all (IsOfLink (order_of host) host libs) (segments (order_of host) host libs)
    (all_of_link host libs read) i.0 s i.1
