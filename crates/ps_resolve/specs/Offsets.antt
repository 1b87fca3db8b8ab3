-- The privates of an allotment: that each begins where the words of all before it end, that they
-- are by slot and then by record, and the offset of one of them.
use Rattle.std.specs.Prelude.{◌≡◌, ℕ, ◌+◌, ◌<◌, ◌==◌, ◌&&◌, ◌||◌, List, [], ◌∷◌, length, take, sum_by, slice_index_or, find, nat_le, nat_lt, Bool, true, Option, ⊤, option_map}
use Rattle.ps_resolve.specs.declared.allotment.Private.{Private}

-- each private begins where the words of all before it end
abbrev pub FollowOn : ℕ → List Private → Type 0
FollowOn next ps = (k : ℕ) (d : Private) → k < length ps
    → (slice_index_or ps k d).offset ≡ next + sum_by (λ p. p.words) (take k ps)

-- the private is of this record of this slot, or of a later one
abbrev pub is_from : ℕ → ℕ → Private → Bool
is_from slot rec p = nat_lt slot p.slot || (slot == p.slot && nat_le rec p.rec)

-- slot and record rise strictly, from these on
abbrev pub RiseFrom : ℕ → ℕ → List Private → Type 0
RiseFrom slot rec [] = ⊤
RiseFrom slot rec (p ∷ ps) = (is_from slot rec p ≡ true) × RiseFrom p.slot (p.rec + 1) ps

-- the private is that of this record in this slot
abbrev pub is_of : ℕ → ℕ → Private → Bool
is_of slot rec p = p.slot == slot && p.rec == rec

-- the offset of the private of a record
abbrev pub offset_listed : ℕ → ℕ → List Private → Option ℕ
offset_listed slot rec ps = option_map (λ p. p.offset) (find (is_of slot rec) ps)
