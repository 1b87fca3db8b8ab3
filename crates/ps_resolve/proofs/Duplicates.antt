-- One record more of a table of definitions.
use Rattle.ps_resolve.proofs.Vocabulary.{rules, ◌≡◌, ℕ, ◌+◌, List, [], ◌∷◌, ◌++◌, length, true, false, Option, Some, None, is_some, refl, arith, append_assoc, length-append, ◌<◌, def_in, definitions, definition_of, first_duplicate, first_duplicate_from, is_definition, definitions_in, Record, nil_from_length, Bool, Fault, Stop, IsStop, doubled_fault, duplicate_fault}
use Rattle.std.specs.Prelude.{⊤}
use Rattle.ps_reading.specs.declared.locations.SegmentAt.{SegmentAt}
use Rattle.ps_resolve.specs.declared.linkage.Stop.TheVariants.{Memory, Refused}
use Rattle.ps_resolve.specs.declared.definitions.Def.{Def}
use Rattle.ps_reading.proofs.RecordCounts.{one_more}

pub none_is : {X : Type 0} (o : Option X) → is_some o ≡ false → o ≡ None
none_is o h = grind arith

module _ (rec : ℕ) (ds : List (List ℕ × Def)) (r : Record) (rs : List Record) where
  -- a record that defines nothing
  pub none_entries : def_in r.body ≡ None
      → ds ++ definitions (r ∷ rs) ≡ ds ++ definitions rs
  none_entries h = grind arith

  pub none_first : def_in r.body ≡ None
      → first_duplicate_from rec ds (r ∷ rs) ≡ first_duplicate_from (rec + 1) ds rs
  none_first h = rw (h, first_duplicate_from) refl

  -- a name that is new
  pub new_entries : (d : Def) → def_in r.body ≡ Some d
      → ds ++ definitions (r ∷ rs) ≡ (ds ++ (r.name, d) ∷ []) ++ definitions rs
  new_entries d h = grind (arith, append_assoc)

  pub new_first : (d : Def) → def_in r.body ≡ Some d
      → is_some (definition_of r.name ds) ≡ false → first_duplicate_from rec ds (r ∷ rs)
      ≡ first_duplicate_from (rec + 1) (ds ++ (r.name, d) ∷ []) rs
  new_first d h k = grind arith

-- where one of what is left defines something, there is a definition
pub some_there : (ds : List (List ℕ × Def)) (r : Record) (rs : List Record) (d : Def)
    → def_in r.body ≡ Some d → 0 < length (ds ++ definitions (r ∷ rs))
some_there ds r rs d h = grind (arith, append_assoc, length-append)

-- with the table so far, the definitions of the records from this index on are all, and the first
-- that is a duplicate is theirs
pub record Defines (all : List Record) (ds : List (List ℕ × Def)) (n : ℕ)
    (rs : List Record) : Type 0 where
  pub entries : ds ++ definitions rs ≡ definitions all
  pub first : first_duplicate_from n ds rs ≡ first_duplicate all

-- there are as many definitions as records that define a name
pub definitions_counted : (rs : List Record) → length (definitions rs) ≡ definitions_in rs
definitions_counted [] = refl
definitions_counted (r ∷ rs) =
    grind (arith, definitions_counted rs, one_more (λ s. is_definition s.body) r rs)

-- records that define nothing define no name again
none_duplicate : (rs : List Record) (n : ℕ) (ds : List (List ℕ × Def))
    → definitions rs ≡ [] → first_duplicate_from n ds rs ≡ None
none_duplicate [] n ds h = refl
none_duplicate (r ∷ rs) n ds h = grind (arith, none_duplicate rs (n + 1) ds)

pub positive : (n : ℕ) → (n ≡ 0 → ⊥) → 0 < n
positive n h = omega (arith, h)

-- where nothing defines a name, there are no definitions, and none is duplicate
pub no_definitions : (rs : List Record) → definitions_in rs ≡ 0
    → (definitions rs ≡ []) × (first_duplicate rs ≡ None)
no_definitions rs h = search (rules, none_duplicate, nil_from_length, definitions_counted)

-- a name that is there already
pub again_first : (n : ℕ) (ds : List (List ℕ × Def)) (r : Record) (rs : List Record) (d : Def)
    → def_in r.body ≡ Some d → is_some (definition_of r.name ds) ≡ true
    → first_duplicate_from n ds (r ∷ rs) ≡ Some n
again_first n ds r rs d h k = grind arith

-- a stop at the definition of a record is one at all
module _ (place : SegmentAt) (n : ℕ) (ds : List (List ℕ × Def)) (all : List Record)
    (r : Record) (rs : List Record) (d : Def) (some : def_in r.body ≡ Some d)
    (defines : Defines all ds n (r ∷ rs)) where
  abbrev here : Bool → Option Fault
  here again = doubled_fault (record { segment = place; rec = n }) again

  refused_at : (f : Fault) (again : Bool) → is_some (definition_of r.name ds) ≡ again
      → here again ≡ Some f → duplicate_fault place.file place.slot all ≡ Some f
  refused_at f true is h = grind (arith, again_first)
  refused_at f false is h = grind arith

  pub stopped_at : (stop : Stop) → IsStop ⊤ (here (is_some (definition_of r.name ds))) stop
      → IsStop (0 < length (definitions all)) (duplicate_fault place.file place.slot all) stop
  stopped_at Memory h = grind (arith, some_there)
  stopped_at (Refused f) h = refused_at f (is_some (definition_of r.name ds)) refl h
