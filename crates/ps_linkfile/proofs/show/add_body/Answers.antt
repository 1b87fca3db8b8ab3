use Rattle.std.proofs.Common.{inl, inr}
use Rattle.ps_writing.proofs.Written.{adds_is, adds_none, ◌⨾◌}
use Rattle.ps_linkfile.proofs.show.add_body.Goals as goal

pub returns-in-UnitRef : goal.returns-in-UnitRef
returns-in-UnitRef g c = adds_is (rw (c.in-UnitRef.is, c.is_listed.ensures))
    (c.add_part.ensures ⨾ (c.add_part-in-UnitRef.ensures
    ⨾ (c.add_part-in-UnitRef-2.ensures ⨾ adds_none)))

pub returns-in-Eof : goal.returns-in-Eof
returns-in-Eof g c = adds_is (rw c.in-Eof.is) (c.add_part-in-Eof.ensures ⨾ adds_none)

pub returns-in-PublDef : goal.returns-in-PublDef
returns-in-PublDef g c =
    let both = c.add_part-in-PublDef.ensures ⨾ (c.add_part-in-PublDef-2.ensures ⨾ adds_none) in
    elim c.in-PublDef.is [
      | inl is ↦ adds_is (rw is) both
      | inr is ↦ adds_is (rw is) both
    ]
