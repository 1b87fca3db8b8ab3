-- The order of a file that is shown, and its lines.
use Rattle.ps_linkfile.proofs.Vocabulary.{filter, range_with_len, in_file, in_slot, Order, Reason, reading, known_order, OpenedFile, FileOrder, Ordered, file_order, opened_as, entry_at, code_of, information_of, ◌≡◌, ℕ, suc, ◌+◌, ◌-◌, ◌<◌, ◌≤◌, List, [], ◌∷◌, ◌++◌, length, length-append, map, append_assoc, Bool, true, if◌then◌else◌, Option, Some, None, Ok, Err, ltb, refl, sym, ◌∙◌, ap, arith, codes, Zero, opened_beside_as}
use Rattle.ps_words.specs.declared.order.Order.TheVariants.{Little}
use Rattle.ps_words.specs.declared.fault.Reason.TheVariants as reason
use Rattle.ps_writing.specs.Rows.{by_form, fault_as}
use Rattle.ps_linkfile.specs.ShowJson.{show_json_of, shown_json}
use Rattle.ps_linkfile.specs.ShowText.{unit_names, records_in, has_links, links_head, links_in, shown_file, show_of, show_fault, order_fault, order_shown, IsShown}
use Rattle.ps_writing.specs.declared.rows.Form.{Form}

-- a file whose kind words show an order
pub record Shows (short : Bool) (of : FileOrder) (file : List ℕ) (shown : FileOrder)
    (o : OpenedFile) : Type 0 where
  pub order : shown ≡ of
  pub dict : o ≡ record { order = known_order of; file = file }
  pub sound : (if short then Some (in_file 0 reason.ShortFile) else order_fault of) ≡ None

-- a file whose order is known can be shown
pub is_shown : (file : List ℕ) (found : Option Order) (o : OpenedFile)
    → Shows (ltb (length file) 512) (file_order file) file (order_shown found) o
    → IsShown found o
is_shown file found o h =
    let same : o.file ≡ file = ap (λ (o : OpenedFile). o.file) h.dict in
    record {
      order = h.order ∙ ap file_order (sym same);
      dict = h.dict ∙ ap as_shown (sym same);
      sound = ap show_fault same ∙ h.sound;
    }
  where
    as_shown : List ℕ → OpenedFile
    as_shown file = record { order = known_order (file_order file); file = file }

module _ (short : Bool) (of : FileOrder) (file : List ℕ) where
  -- a file that is opened by itself shows the order in which its words are read
  pub read_shows : (o : OpenedFile) → (if short then Err reason.ShortFile else opened_as file of)
      ≡ Ok o → Shows short of file (Ordered o.order) o
  read_shows o h = grind arith

  -- a file that is not opened by itself, but beside a little-endian one, shows no order
  pub beside_shows : (why : Reason) (o : OpenedFile)
      → (if short then Err reason.ShortFile else opened_as file of) ≡ Err why
      → (if short then Err reason.ShortFile else opened_beside_as Little file of) ≡ Ok o
      → Shows short of file Zero o
  beside_shows why o h k = grind arith

  -- where it is not opened beside one either, the reason for that is why it cannot be shown
  pub beside_fault : (why other : Reason)
      → (if short then Err reason.ShortFile else opened_as file of) ≡ Err why
      → (if short then Err reason.ShortFile else opened_beside_as Little file of) ≡ Err other
      → (if short then Some (in_file 0 reason.ShortFile) else order_fault of)
      ≡ Some (in_file 0 other)
  beside_fault why other h k = grind arith

pub shown_is : (file : List ℕ) (found : FileOrder) (o : OpenedFile) → found ≡ file_order file
    → o ≡ record { order = known_order (file_order file); file = file }
    → shown_file found o.order o.file ≡ show_of file
unfolding show_of
shown_is file found o h k = rw (h, k)

-- the names of those that pass, with one number more
pub names_more : {X : Type 0} (test : ℕ → Bool) (name : ℕ → X) (xs new all : List X)
    (i n : ℕ) → i < n → xs ++ map name (filter test (range_with_len i (n - i))) ≡ all
    → new ≡ xs ++ (if test i then name i ∷ [] else [])
    → new ++ map name (filter test (range_with_len (i + 1) (n - (i + 1)))) ≡ all
names_more {X} test name xs new all i n lt h e =
    let left : n - i ≡ suc (n - (i + 1)) = omega arith in
    ap (λ ys. ys ++ map name (filter test rest)) e ∙ (append_assoc xs (if test i then name i
    ∷ [] else []) (map name (filter test rest)) ∙ (ap (λ ys. xs ++ ys) (by (test i) refl)
    ∙ (ap (λ k. xs ++ map name (filter test (range_with_len i k))) (sym left) ∙ h)))
  where
    rest : List ℕ
    rest = range_with_len (i + 1) (n - (i + 1))

    by : (b : Bool) → test i ≡ b → (if test i then name i ∷ [] else [])
        ++ map name (filter test rest) ≡ map name (filter test (i ∷ rest))
    by b h = grind arith

pub few_more : {X : Type 0} (b : Bool) (x : X) (xs new : List X) (i : ℕ) → length xs ≤ i
    → new ≡ xs ++ (if b then x ∷ [] else []) → length new ≤ i + 1
few_more b x xs new i h k = grind (arith, length-append)

module _ (form : Form) (order : Order) (file : List ℕ) (slot : ℕ) where
  -- the link information of a slot whose code is refused
  pub links_of_fault : (why : Reason) → has_links (entry_at order file slot) ≡ true
      → code_of file (entry_at order file slot) ≡ Err why → links_head form slot
      ++ (by_form form [] (codes ",\"fault\":")
      ++ fault_as form (in_slot 0 slot why) (entry_at order file slot).name
      ++ by_form form (codes "\n") (codes ",\"records\":[]")) ≡ links_in form order file slot
  unfolding links_in
  links_of_fault why h k = rw (h, k) refl

  -- the link information of a slot whose code is in the file
  pub links_of_records : (code : List ℕ) → has_links (entry_at order file slot) ≡ true
      → code_of file (entry_at order file slot) ≡ Ok code → links_head form slot
      ++ (by_form form [] (codes ",\"fault\":null,\"records\":[")
      ++ records_in form (unit_names order file) slot (entry_at order file slot).name
      (reading order (information_of file (entry_at order file slot)))
      ++ by_form form [] (codes "\n]")) ≡ links_in form order file slot
  unfolding links_in
  links_of_records code h k = rw (h, k) refl

pub json_is : (file : List ℕ) (found : FileOrder) (o : OpenedFile) → found ≡ file_order file
    → o ≡ record { order = known_order (file_order file); file = file }
    → shown_json found o.order o.file ≡ show_json_of file
unfolding show_json_of
json_is file found o h k = rw (h, k)
