-- What a log has after the steps of a link.
use Rattle.std.proofs.Common.{◌≡◌, ◌⊎◌, ◌∙◌, ◌++◌, ◌∷◌, [], Err, List, None, Ok, OnErr, OnOk, Option, Result, Some, ap, append_assoc, arith, inl, inr, length, subst, sym, take, true, ℕ}
use Rattle.std.specs.Prelude.{IfErr, IfOk, is_ok}
use Rattle.std.specs.Io.KnownBytes.{Appends}
use Rattle.std.proofs.lemmas.List.{take_all}
use Rattle.ps_writing.specs.Prefixes.{AppendsPrefix}
use Rattle.ps_output_files.proofs.Outcomes.{written}
use Rattle.ps_output_files.specs.Log.{AddsAll, AddsPart, Closed, Created, Event, Grows, IsClosed, IsCreated, Log, TakesMap, TakesPart, took}

-- one growth, and then another
pub grows_then : (a b c : Log) (xs ys : List Event) → Grows a b xs → Grows b c ys
    → Grows a c (xs ++ ys)
grows_then None b c xs ys first later = tt
grows_then (Some before) b c xs ys first later =
    let grown : Grows (Some (before ++ xs)) c ys = subst (λ (l : Log). Grows l c ys) first later in
    grown ∙ ap (λ (l : List Event). Some l) (append_assoc before xs ys)

-- a file that was created, took bytes, and was closed
pub taken : (a b c : Log) (path bytes : List ℕ) (first last : Option (List ℕ))
    → IsCreated a b path first → Appends first last bytes → IsClosed b c path last
    → Grows a c (took path bytes)
taken None b c path bytes first last created wrote closed = tt
taken (Some before) b c path bytes first last created wrote closed =
    let ended : IsClosed (Some (before ++ Created path ∷ [])) c path last =
    subst (λ (l : Log). IsClosed l c path last) created.0 closed in
    let started : Appends (Some []) last bytes =
    subst (λ (o : Option (List ℕ)). Appends o last bytes) created.1 wrote in
    let same : ended.0 ≡ bytes =
    subst (λ (o : Option (List ℕ)). Appends (Some []) o bytes) ended.1 started in
    ended.2 ∙ ap (λ (l : List Event). Some l)
    (append_assoc before (Created path ∷ []) (Closed path ended.0 ∷ []))
    ∙ ap (λ (bs : List ℕ). Some (before ++ took path bs)) same

-- all that was to be written, where it was and its file was closed
pub taken_whole : {T E U V : Type 0} (wrote : Result T E) (r : Result U V) (a b c : Log)
    (path bytes : List ℕ) (first last : Option (List ℕ)) → IsCreated a b path first
    → OnOk wrote (Appends first last bytes) → IsClosed b c path last
    → IfOk r (λ _. is_ok wrote ≡ true) → IfOk r (λ _. Grows a c (took path bytes))
taken_whole (Ok x) (Ok y) a b c path bytes first last created all closed whole =
    taken a b c path bytes first last created all closed
taken_whole (Err e) (Ok y) a b c path bytes first last created all closed whole = absurd (grind (arith, whole))
taken_whole wrote (Err e) a b c path bytes first last created all closed whole = tt

-- a prefix of it, where it was not
pub taken_part : {T E U V : Type 0} (Other : Type 0) (wrote : Result T E) (r : Result U V) (a b c : Log)
    (path bytes : List ℕ) (first last : Option (List ℕ)) → IsCreated a b path first
    → OnOk wrote (Appends first last bytes) → OnErr wrote (AppendsPrefix first last bytes)
    → IsClosed b c path last
    → IfErr r (λ _. Other ⊎ ((n : ℕ) × Grows a c (took path (take n bytes))))
taken_part Other wrote (Ok y) a b c path bytes first last created all prefix closed = tt
taken_part Other wrote (Err e) a b c path bytes first last created all prefix closed =
    let some = written wrote first last bytes all prefix in
    inr (some.0, taken a b c path (take some.0 bytes) first last created some.1 closed)

-- a file that took all took a prefix
pub whole_part : (a c : Log) (path bytes : List ℕ) → Grows a c (took path bytes)
    → TakesPart a c path bytes
whole_part a c path bytes grows = inr (
  length bytes,
  rw (take_all (length bytes) bytes (omega arith)) grows,
)

-- a link that wrote all of a map that is one kind of text wrote all of one of a wider kind
pub all_weaker : {P Q : List ℕ → Type 0} (out : List ℕ) (map : Option (List ℕ)) (file : List ℕ)
    (a b : Log) → ((text : List ℕ) → P text → Q text) → AddsAll out map file P a b
    → AddsAll out map file Q a b
all_weaker out None file a b more adds = adds
all_weaker out (Some map) file a b more adds = (adds.0, more adds.0 adds.1, adds.2)

pub part_weaker : {P Q : List ℕ → Type 0} (out : List ℕ) (map : Option (List ℕ)) (file : List ℕ)
    (a b : Log) → ((text : List ℕ) → P text → Q text) → AddsPart out map file P a b
    → AddsPart out map file Q a b
part_weaker out None file a b more adds = adds
part_weaker out (Some map) file a b more (inl part) = inl part
part_weaker out (Some map) file a b more (inr adds) =
    inr (adds.0, adds.1, more adds.0 adds.2, adds.3)

-- all of it is a part of it
pub all_part : (P : List ℕ → Type 0) (out : List ℕ) (map : Option (List ℕ)) (file : List ℕ) (a b : Log)
    → AddsAll out map file P a b → AddsPart out map file P a b
all_part P out None file a b adds = inl (whole_part a b out file adds)
all_part P out (Some map) file a b adds = inr (
  adds.0,
  length adds.0,
  adds.1,
  rw (take_all (length adds.0) adds.0 (omega arith)) adds.2,
)

-- OUT, and then the file of the map
pub adds_all : (P : List ℕ → Type 0) (out : List ℕ) (map : Option (List ℕ)) (file text : List ℕ)
    (a b c : Log) → P text → Grows a b (took out file) → TakesMap b c map text
    → AddsAll out map file P a c
adds_all P out None file text a b c is first later =
    subst (λ (l : Log). Grows a l (took out file)) (sym later) first
adds_all P out (Some map) file text a b c is first later =
    (text, is, grows_then a b c (took out file) (took map text) first later)
