use Rattle.ps_linkfile.proofs.Vocabulary.{IsPlan, StoredIn, Planned, all_stored_in, all_stored_of, references_in, edited_segments, ◌≡◌, ◌∙◌, ◌++◌, ℕ, List, ap, contents, Json}
use Rattle.ps_linkfile.specs.MapText.{members_of}
use Rattle.ps_linkfile.proofs.StoredPlaces.{joined, all_stored_are}
use Rattle.ps_linkfile.proofs.Maps.{members_are}
use Rattle.ps_linkfile.proofs.references.prepare_references.Goals as goal

-- what is listed of the segments of a plan of a link is what the link stores
stored : (host : List ℕ) (libs : List (List ℕ)) (p q : Planned) (ls : List StoredIn)
    → IsPlan host libs p → q ≡ p
    → ls ≡ all_stored_in q.order q.sources (edited_segments q.order q.sources)
    → ls ≡ all_stored_of host libs
stored host libs p q ls plan same listed = listed ∙ all_stored_are host libs p q plan same

pub returns-clause-text : goal.returns-clause-text
returns-clause-text g c = joined _ _ _ _ _ c.in_ok-linked.ensures.map
    (stored _ _ _ _ _ c.in_ok-linked.ensures.plan c.plan.ensures.plan c.in_ok-all_stored.ensures)

pub returns-clause-json : goal.returns-clause-json
returns-clause-json g c =
    let all_stored = c.in_ok-all_stored.all_stored.items in
    let listed : all_stored ≡ all_stored_of c.args.host.now (contents c.args.libs.now) =
    stored _ _ _ _ _ c.in_ok-linked.ensures.plan c.plan.ensures.plan c.in_ok-all_stored.ensures in
    ap (λ (bs : List ℕ). bs ++ references_in Json all_stored)
    (members_are _ _ _ c.in_ok-linked.ensures.plan)
    ∙ ap (λ (ls : List StoredIn). members_of c.args.host.now (contents c.args.libs.now)
    ++ references_in Json ls) listed
