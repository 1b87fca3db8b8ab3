-- Files that a link reads the same: what may differ between them is not read.
-- Source: the segment dictionary is that of the UCSD Pascal II.0 manual, the link information that
-- of the published II.0 Linker source; that nothing else is read is this project's profile.
use Rattle.std.specs.Prelude.{◌≡◌, ℕ, ◌<◌, List, [], ◌∷◌, Bool, true, false, Ok, ⊤}
use Rattle.std.specs.Result.{result_err}
use Rattle.ps_words.specs.declared.order.Order.{Order}
use Rattle.ps_codefile.specs.Dictionary.{entry_at, is_filled, role_of, code_of, information_of, opened_alone, opened_beside}
use Rattle.ps_codefile.specs.Roles.{needs_linking}
use Rattle.ps_codefile.specs.declared.entry.Role.{Role}
use Rattle.ps_codefile.specs.declared.entry.Role.TheVariants.{Empty, Wanted, Plain, Host, Unit}
use Rattle.ps_linkinfo.specs.Records.{reading}
use Rattle.ps_resolve.specs.Sources.{is_named, order_of}
use Rattle.ps_rebuild_laws.specs.SameSegments.{HaveSameHeads}
use Rattle.ps_codefile.specs.declared.dictionary_layout.TheConstants.{SLOTS}

-- slot i of both files has the same code, or none for the same reason
abbrev pub HasSameCode : Order → List ℕ → List ℕ → ℕ → Type 0
HasSameCode order file other i =
    code_of file (entry_at order file i) ≡ code_of other (entry_at order other i)

-- two files' link information has the same records, or the same before the same fault: what follows
-- an end mark is not read
abbrev pub HasSameRecords : Order → List ℕ → List ℕ → ℕ → Type 0
HasSameRecords order file other i = reading order (information_of file (entry_at order file i))
    ≡ reading order (information_of other (entry_at order other i))

-- Two libraries have the same entries of a name: the same slots are filled with it. Such a slot has
-- the same kind, and that of a unit (kind 3) the same code and records.
pub record HaveSameEntries (order : Order) (name lib other : List ℕ) : Type 0 where
  pub named : (i : ℕ) → i < SLOTS → is_named order name lib i ≡ is_named order name other i
  pub kinds : (i : ℕ) → i < SLOTS → is_named order name lib i ≡ true
      → (entry_at order lib i).kind ≡ (entry_at order other i).kind
  pub units : (i : ℕ) → i < SLOTS → is_named order name lib i ≡ true
      → (entry_at order lib i).kind ≡ 3
      → HasSameCode order lib other i × HasSameRecords order lib other i

-- Two libraries are refused for the same reason, or both are opened. The same slots are filled;
-- such a slot has the same name and kind, and that of a unit (kind 3) the same code and records.
pub record IsReadAlike (order : Order) (lib other : List ℕ) : Type 0 where
  pub opened : result_err (opened_beside order lib) ≡ result_err (opened_beside order other)
  pub filled : (i : ℕ) → i < SLOTS
      → is_filled (entry_at order lib i) ≡ is_filled (entry_at order other i)
  pub names : (i : ℕ) → i < SLOTS → is_filled (entry_at order lib i) ≡ true
      → (entry_at order lib i).name ≡ (entry_at order other i).name
  pub kinds : (i : ℕ) → i < SLOTS → is_filled (entry_at order lib i) ≡ true
      → (entry_at order lib i).kind ≡ (entry_at order other i).kind
  pub units : (i : ℕ) → i < SLOTS → is_filled (entry_at order lib i) ≡ true
      → (entry_at order lib i).kind ≡ 3
      → HasSameCode order lib other i × HasSameRecords order lib other i

-- the libraries are read alike, one by one
abbrev pub AreReadAlike : Order → List (List ℕ) → List (List ℕ) → Type 0
AreReadAlike order [] [] = ⊤
AreReadAlike order [] (other ∷ others) = ⊥
AreReadAlike order (lib ∷ libs) [] = ⊥
AreReadAlike order (lib ∷ libs) (other ∷ others) =
    IsReadAlike order lib other × AreReadAlike order libs others

-- a segment of the host's own is in a slot of this role
abbrev pub is_in_place : Role → Bool
is_in_place Empty = false
is_in_place Wanted = false
is_in_place Plain = true
is_in_place Host = true
is_in_place Unit = true

-- Two hosts and their libraries are read alike: the hosts have one byte order, the same names of
-- their slots and the same bytes after the text addresses. Both are opened, or refused for the same
-- reason. Their slots have the same roles, those with a segment in place the same codes, and those
-- that are to be linked the same records. The libraries are read alike, one by one.
pub record AreFilesAlike (host other : List ℕ) (libs others : List (List ℕ)) : Type 0 where
  pub heads : HaveSameHeads host other
  pub opened : result_err (opened_alone host) ≡ result_err (opened_alone other)
  pub roles : (slot : ℕ) → slot < SLOTS
      → role_of (entry_at (order_of host) host slot)
      ≡ role_of (entry_at (order_of host) other slot)
  pub codes : (slot : ℕ) → slot < SLOTS → (r : Role)
      → role_of (entry_at (order_of host) host slot) ≡ Ok r → is_in_place r ≡ true
      → HasSameCode (order_of host) host other slot
  pub records : (slot : ℕ) → slot < SLOTS → (r : Role)
      → role_of (entry_at (order_of host) host slot) ≡ Ok r → is_in_place r ≡ true
      → needs_linking r ≡ true → HasSameRecords (order_of host) host other slot
  pub libraries : AreReadAlike (order_of host) libs others
