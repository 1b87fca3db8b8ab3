-- The linked file is one list: where its facts hold, each byte is that of the list.
use Rattle.ps_linkfile.proofs.Vocabulary.{flat_map, length-map-range_with_len, get_or-map-range_with_len, nat_tests, ext_get_or, all_blocks, LinkedFile, All-nil, in_file, Segment, drop_all, block_of, All-cons, order_of, drop-drop, blocks, get_or_append_left, get_or-replicate, Order, Fault, pair_of, Reason, Edit, padded_segment, linked_file, OpenedFile, patched_or_zero, linked_segments, ◌≡◌, ℕ, suc, List, ◌+◌, ◌-◌, ◌*◌, ◌/◌, ◌≤◌, ◌<◌, [], ◌∷◌, ◌++◌, length, get_or, take, drop, replicate, Option, Some, None, Result, Err, Bool, false, cond, refl, sym, ◌∙◌, ap, subst, inl, inr, arith, append_assoc, length-append, length-take, length-drop, All, slice_range, option_map, append-nil, get_or-take, get_or-drop, get_or-append-add, take_at, drop_at, cases_lt, ltb-false, le-ltb, IsLinkedByte, segments_of, HaveLinkedBytes, HaveOneLinkedByte, linked_byte, All-map, SLOTS}
use Rattle.std.specs.Result.{result_err}
use Rattle.std.proofs.lemmas.List.Folds.{drop_split}
use Rattle.std.proofs.Math.Seq.{take-append_seam, drop-append-add}
use Rattle.ps_words.specs.declared.fault.Reason.TheVariants as reason
use Rattle.ps_resolve.specs.Standing.{NoneStands, IsFirst}
use Rattle.ps_resolve.specs.Added.{segments, slot_names}
use Rattle.ps_resolve.specs.Faults.{host_fault}
use Rattle.ps_resolve.specs.AllFaults.{first_fault, reading_fault}
use Rattle.ps_linkfile.specs.LinkedFile.{all_pairs, dictionary}
use Rattle.ps_linkfile.proofs.Blocks.{Left, left_start, left_more, first_block, all_blocks-cons}
use Rattle.ps_linkfile.proofs.Pairs.{pair_four, pairs_at, pairs_len}
use Rattle.ps_linkfile.proofs.Plans.{segments_in, linked_are}
use Rattle.ps_linkfile.proofs.Slots.{segments_ascend}
use Rattle.ps_resolve.proofs.FirstSlots.{neither_first}

-- a place of a list, in a part of it
part_at : (xs ys : List ℕ) (a b p : ℕ) → slice_range xs a b ≡ ys → a ≤ p → p < b
    → get_or xs p 0 ≡ get_or ys (p - a) 0
part_at xs ys a b p h le lt = grind (arith, get_or-take, get_or-drop)

pub part_len : (xs : List ℕ) (a b : ℕ) → b ≤ length xs
    → length (slice_range xs a b) ≡ b - a
part_len xs a b h = length-take (b - a) (drop a xs) ∙ omega (arith, length-drop a xs)

-- lists that have a part in common have the bytes of its places in common
part_same : (xs ys part : List ℕ) (a b p : ℕ) → slice_range xs a b ≡ part
    → slice_range ys a b ≡ part → a ≤ p → p < b → get_or xs p 0 ≡ get_or ys p 0
part_same xs ys part a b p h k le lt =
    part_at xs part a b p h le lt ∙ sym (part_at ys part a b p k le lt)

-- a part of a list, between what is before it and what is after it
part_between : (file xs ys zs : List ℕ) (a b : ℕ) → file ≡ xs ++ (ys ++ zs)
    → length xs ≡ a → length ys ≡ b - a → slice_range file a b ≡ ys
part_between file xs ys zs a b is before len =
    rw (is, drop_at xs (ys ++ zs) a before) (take_at ys zs (b - a) len)

-- the part after so many
behind : (xs ys : List ℕ) (n j : ℕ) → length xs ≡ n
    → get_or (xs ++ ys) (n + j) 0 ≡ get_or ys j 0
behind xs ys n j len = rw (← len) (get_or-append-add xs ys j 0)

-- a code with its edits is at the block of its slot, with zeros up to the end of its last block
abbrev IsLaid : Order → List ℕ → List Segment → Segment × List Edit → Type 0
IsLaid order file all e = (p : ℕ) → p < 512 * blocks (length e.0.code)
    → get_or file (512 * block_of all e.0.slot + p) 0 ≡ patched_or_zero order e.0.code e.1 p

module _ (order : Order) where
  inside : (e : Segment × List Edit) (p : ℕ) → p < length e.0.code
      → patched_or_zero order e.0.code e.1 p ≡ linked_byte order e p
  inside e p lt = grind (arith, nat_tests)

  past : (e : Segment × List Edit) (p : ℕ) → length e.0.code ≤ p
      → patched_or_zero order e.0.code e.1 p ≡ 0
  past e p le = grind (arith, le-ltb)

  padded_len : (e : Segment × List Edit)
      → length (padded_segment order e) ≡ 512 * blocks (length e.0.code)
  padded_len e = grind (arith, length-map-range_with_len)

  padded_at : (e : Segment × List Edit) (p : ℕ) → p < 512 * blocks (length e.0.code)
      → get_or (padded_segment order e) p 0 ≡ patched_or_zero order e.0.code e.1 p
  padded_at e p lt = grind (arith, get_or-map-range_with_len)

  -- all codes, each in whole blocks, take 512 bytes for each of their blocks
  codes_len : (es : List (Segment × List Edit)) → length (flat_map (padded_segment order) es)
      ≡ 512 * all_blocks (segments_in es)
  codes_len [] = omega arith
  codes_len (e ∷ es) =
      grind (arith, length-append, padded_len, all_blocks-cons, segments_in, codes_len es)

  -- codes that are put one after another are at the blocks of their slots
  laid : (all : List Segment) (prefix : List ℕ) (from block : ℕ)
      (es : List (Segment × List Edit)) → Left all from block (segments_in es)
      → length prefix ≡ 512 * block
      → All (IsLaid order (prefix ++ flat_map (padded_segment order) es) all) es
  laid all prefix from block [] left len = All-nil (IsLaid order (prefix ++ []) all)
  laid all prefix from block (e ∷ es) left len =
      let code = padded_segment order e in
      let rest = flat_map (padded_segment order) es in
      let os = segments_in es in
      let at : block_of all e.0.slot ≡ block =
      first_block all from block e.0 os left in
      All-cons (IsLaid order (prefix ++ (code ++ rest)) all) e es
      (λ p lt. rw (at, behind prefix (code ++ rest) (512 * block) p len)
      (get_or_append_left code rest 0 p (omega (arith, padded_len e)) ∙ padded_at e p lt))
      (rw (append_assoc prefix code rest) at (laid all (prefix ++ code) (e.0.slot + 1)
      (block + blocks (length e.0.code)) es
      (left_more all from block e.0 os left)
      (length-append prefix code ∙ omega (arith, len, padded_len e))))

-- lists that have the same bytes in the blocks of each segment have the same bytes in all of them
same_codes : (f g : List ℕ) (all : List Segment) (from block p : ℕ) (ss : List Segment)
    → Left all from block ss
    → All (λ s. (j : ℕ) → j < 512 * blocks (length s.code)
    → get_or f (512 * block_of all s.slot + j) 0
    ≡ get_or g (512 * block_of all s.slot + j) 0) ss → 512 * block ≤ p
    → p < 512 * (block + all_blocks ss) → get_or f p 0 ≡ get_or g p 0
same_codes f g all from block p [] left same le lt = absurd (omega arith)
same_codes f g all from block p (s ∷ ss) left same le lt =
    let n = blocks (length s.code) in
    let os = ss in
    let at : block_of all s.slot ≡ block = first_block all from block s os left in
    elim (cases_lt p (512 * (block + n))) [
      | inl here ↦
          let is : 512 * block_of all s.slot + (p - 512 * block) ≡ p = omega (arith, at) in
          rw is at (same 0 s (omega arith) (p - 512 * block) (omega arith))
      | inr there ↦
          same_codes f g all (s.slot + 1) (block + n) p ss
          (left_more all from block s os left)
          (λ k d within. same (suc k) d (omega arith)) (omega arith)
          (omega (arith, lt, all_blocks-cons s os))
    ]

whole_test : (short : Bool) (of : Result OpenedFile Reason) → option_map
    (in_file 0) (result_err (cond short (Err reason.ShortFile) of)) ≡ None → short ≡ false
whole_test short of h = grind arith

whole_host : (host : List ℕ) → host_fault host ≡ None → 512 ≤ length host
whole_host host h = grind (arith, ltb-false, whole_test)

module _ (host : List ℕ) (libs : List (List ℕ)) where
  host_first : reading_fault host libs ≡ None → host_fault host ≡ None
  unfolding reading_fault
  host_first h = neither_first (host_fault host) _ h

  pub reading_first : first_fault host libs ≡ None → reading_fault host libs ≡ None
  unfolding first_fault
  reading_first h = neither_first (reading_fault host libs) _ h

  pub long_host : first_fault host libs ≡ None → 512 ≤ length host
  long_host h = whole_host host (host_first (reading_first h))

-- a file that begins with pairs, names, zeros and a tail has them as its parts
record HasParts (pairs names zeros tail file : List ℕ) : Type 0 where
  in_pairs : slice_range file 0 64 ≡ pairs
  in_names : slice_range file 64 192 ≡ names
  in_zeros : slice_range file 192 256 ≡ zeros
  in_tail : slice_range file 256 512 ≡ tail

module _ (pairs names zeros tail : List ℕ) (p : length pairs ≡ 64) (n : length names ≡ 128)
    (z : length zeros ≡ 64) (t : length tail ≡ 256) where
  has_parts : (codes : List ℕ)
      → HasParts pairs names zeros tail ((pairs ++ (names ++ (zeros ++ tail))) ++ codes)
  has_parts codes = let file = (pairs ++ (names ++ (zeros ++ tail))) ++ codes in record {
    in_pairs = part_between file [] pairs (names ++ (zeros ++ (tail ++ codes))) 0 64
        (simp append_assoc) refl p;
    in_names = part_between file pairs names (zeros ++ (tail ++ codes)) 64 192
        (simp append_assoc) p n;
    in_zeros = part_between file (pairs ++ names) zeros (tail ++ codes) 192 256
        (simp append_assoc) (omega (arith, length-append pairs names)) z;
    in_tail = part_between file (pairs ++ (names ++ zeros)) tail codes 256 512
        (simp append_assoc) (simp length-append (omega arith)) t;
  }

  head_len : length (pairs ++ (names ++ (zeros ++ tail))) ≡ 512
  head_len = simp length-append (omega arith)

-- a list in which a part was stored behind so many bytes
stored_behind : (xs ys part d : List ℕ) (n : ℕ) → d ≡ xs ++ ys → length xs ≡ n
    → take n d ++ (part ++ drop (n + length part) d) ≡ xs ++ (part ++ drop (length part) ys)
stored_behind xs ys part d n is len = rw (is, ← len, take-append_seam, drop-append-add)

-- the parts of a dictionary that were stored in a block of zeros, one after another
pub stored_parts : (z d1 d2 d3 pairs names mid tail : List ℕ) → length z ≡ 512
    → slice_range z 192 256 ≡ mid → length pairs ≡ 64 → length names ≡ 128
    → length tail ≡ 256 → d1 ≡ take 0 z ++ (pairs ++ drop (0 + length pairs) z)
    → d2 ≡ take 64 d1 ++ (names ++ drop (64 + length names) d1) → d3 ≡ take 256 d2
    ++ (tail ++ drop (256 + length tail) d2) → d3 ≡ pairs ++ (names ++ (mid ++ tail))
stored_parts z d1 d2 d3 pairs names mid tail lz hm lp ln lt h1 h2 h3 =
    let first : d1 ≡ pairs ++ drop 64 z =
    rw lp at (h1 ∙ stored_behind [] z pairs z 0 refl refl) in
    let second : d2 ≡ pairs ++ (names ++ drop 192 z) =
    rw (ln, drop-drop) at (h2 ∙ stored_behind pairs (drop 64 z) names d1 64 first lp) in
    let parted : drop 192 z ≡ mid ++ drop 256 z =
    drop_split z 192 256 (omega arith) ∙ ap (λ xs. xs ++ drop 256 z) hm in
    let third : d2 ≡ (pairs ++ (names ++ mid)) ++ drop 256 z =
    second ∙ rw parted (simp append_assoc) in
    let middle : length mid ≡ 64 = rw hm at (part_len z 192 256 (omega (arith, lz))) in
    let prefix : length (pairs ++ (names ++ mid)) ≡ 256 =
    simp length-append (omega (arith, middle)) in
    let none : drop (length tail) (drop 256 z) ≡ [] =
    drop_all (length tail) (drop 256 z) (omega (arith, length-drop 256 z)) in
    h3 ∙ (stored_behind (pairs ++ (names ++ mid)) (drop 256 z) tail d2 256 third prefix
    ∙ rw none (simp (append_assoc, append-nil)))

pub all_pairs_len : (order : Order) (all : List Segment) → length (all_pairs order all) ≡ 64
unfolding all_pairs
all_pairs_len order all = pairs_len order all

-- the bytes of block 0 are the dictionary
pub dictionary_is : (order : Order) (all_names : List (List ℕ)) (host : List ℕ) (all : List
    Segment) (d pairs names tail : List ℕ) → d ≡ pairs ++ (names ++ (replicate 64 0 ++ tail))
    → pairs ≡ all_pairs order all → names ≡ flat_map (λ name. name) all_names
    → tail ≡ slice_range host 256 512 → d ≡ dictionary order all_names host all
unfolding dictionary
dictionary_is order all_names host all d pairs names tail h p n t = grind arith

-- where a file begins with sixteen pairs, it has the pair of each slot
pair_part : (order : Order) (all : List Segment) (file : List ℕ) → 512 ≤ length file
    → slice_range file 0 64 ≡ all_pairs order all → (slot : ℕ) → slot < SLOTS
    → slice_range file (4 * slot) (4 * slot + 4) ≡ pair_of order all slot
unfolding all_pairs
pair_part order all file long h slot lt =
    let part = slice_range file (4 * slot) (4 * slot + 4) in
    let len : length part ≡ 4 =
    part_len file (4 * slot) (4 * slot + 4) (omega arith) ∙ omega arith in
    ext_get_or 0 part (pair_of order all slot) (len ∙ sym (pair_four order all slot)) (λ j l.
    let within : j < 4 = omega (arith, len) in
    let here : 4 * slot + j - 4 * slot ≡ j = omega arith in
    let at : 4 * slot + j - 0 ≡ 4 * slot + j = omega arith in
    rw here at (sym (part_at file part (4 * slot) (4 * slot + 4) (4 * slot + j) refl (omega arith)
    (omega arith))) ∙ (part_at file _ 0 64 (4 * slot + j) h (omega arith) (omega arith)
    ∙ rw at (pairs_at order all slot j lt within)))

-- the law that the names of all slots have eight bytes each
abbrev pub NamesWhole : Type 0
NamesWhole = (order : Order) (host : List ℕ) (libs : List (List ℕ)) → 512 ≤ length host
    → length (flat_map (λ name. name) (slot_names host (segments order host libs))) ≡ 128

-- the laws of linked bytes: where no fault applies the edits make them, and there is one at each
-- place
abbrev pub AreMade : Type 0
AreMade = (host : List ℕ) (libs : List (List ℕ)) → NoneStands host libs
    → HaveLinkedBytes host libs

abbrev pub AreOne : Type 0
AreOne = (host : List ℕ) (libs : List (List ℕ)) → NoneStands host libs
    → HaveOneLinkedByte host libs

-- where no first fault is computed none applies
abbrev pub NoneFound : Type 0
NoneFound = (host : List ℕ) (libs : List (List ℕ)) → first_fault host libs ≡ None
    → NoneStands host libs

-- where none applies, no first fault is computed
pub none_found : ((host : List ℕ) (libs : List (List ℕ)) (f : Fault) → first_fault host libs
    ≡ Some f → IsFirst host libs f) → (host : List ℕ) (libs : List (List ℕ))
    → NoneStands host libs → first_fault host libs ≡ None
none_found first host libs none = go (first_fault host libs) refl
  where
    go : (o : Option Fault) → first_fault host libs ≡ o → o ≡ None
    go None e = refl
    go (Some f) e = let w = first host libs f e in absurd (none w.step f w.stands)

-- the linked file of a host and its libraries
module _ (host : List ℕ) (libs : List (List ℕ)) where
  abbrev IsLinked : List ℕ → Segment → Type 0
  IsLinked file s = (p : ℕ) → p < length s.code
      → IsLinkedByte (order_of host) (segments_of host libs) s p
      (get_or file (512 * block_of (segments_of host libs) s.slot + p) 0)

  abbrev IsPadded : List ℕ → Segment → Type 0
  IsPadded file s = (p : ℕ) → length s.code ≤ p → p < 512 * blocks (length s.code)
      → get_or file (512 * block_of (segments_of host libs) s.slot + p) 0 ≡ 0

  -- what holds of each segment with its edits holds of each segment
  of_all : (P : Segment → Type 0) → All (λ (e : Segment × List Edit). P e.0)
      (linked_segments host libs) → All P (segments_of host libs)
  of_all P h = subst (λ ss. All P ss) (linked_are host libs)
      (All-map P (λ (e : Segment × List Edit). e.0) (linked_segments host libs) h)

  -- where no fault applies, the one list is the linked file of the host and the libraries
  pub there : NamesWhole → NoneFound → AreMade → first_fault host libs ≡ None
      → LinkedFile host libs (linked_file host libs)
  unfolding dictionary
  there law found made none =
      let order = order_of host in
      let all = segments_of host libs in
      let es = linked_segments host libs in
      let file = linked_file host libs in
      let long = long_host host libs none in
      let stands = found host libs none in
      let pairs = all_pairs order all in
      let names : List ℕ = flat_map (λ name. name)
      (slot_names host (segments order host libs)) in
      let tail : List ℕ = slice_range host 256 512 in
      let codes : List ℕ = flat_map (padded_segment order) es in
      let zeros : List ℕ = replicate 64 0 in
      let named : length names ≡ 128 = law order host libs long in
      let ended : length tail ≡ 256 = part_len host 256 512 long in
      let parts = has_parts pairs names zeros tail (all_pairs_len order all) named refl ended codes
      in
      let prefix : length (pairs ++ (names ++ (zeros ++ tail))) ≡ 512 =
      head_len pairs names zeros tail (all_pairs_len order all) named refl ended in
      let size : length file ≡ 512 * (1 + all_blocks all) =
      length-append (pairs ++ (names ++ (zeros ++ tail))) codes
      ∙ omega (
        arith,
        prefix,
        codes_len order es,
        ap (λ ss. all_blocks ss) (linked_are host libs),
      ) in
      let left : Left all 0 1 (segments_in es) =
      rw (linked_are host libs) (left_start all (segments_ascend order host libs)) in
      let put = laid order all (pairs ++ (names ++ (zeros ++ tail))) 0 1 es left prefix in
      record {
        accepted = stands;
        size = size;
        pairs = pair_part order all file (omega (arith, size)) parts.in_pairs;
        names = parts.in_names;
        kinds_and_texts = λ q le lt. part_at file zeros 192 256 q parts.in_zeros le lt
            ∙ get_or-replicate {A = ℕ} 64 (q - 192) 0 0 (omega arith);
        tail = parts.in_tail;
        codes = of_all (IsLinked file) (λ k d lt q within. subst (λ (b : ℕ). IsLinkedByte order
            (segments_of host libs) (get_or es k d).0 q b)
            (sym (put k d lt q (omega arith) ∙ inside order (get_or es k d) q within))
            (made host libs stands k d lt q within));
        padding = of_all (IsPadded file) (λ k d lt q beyond within. put k d lt q within
            ∙ past order (get_or es k d) q beyond);
      }

  -- two linked files of the same files are the same list
  pub one : AreOne → (f g : List ℕ)
      → LinkedFile host libs f → LinkedFile host libs g → f ≡ g
  one single f g h k = ext_get_or 0 f g (h.size ∙ sym k.size) (λ p lt.
      elim (cases_lt p 64) [
        | inl in_pairs ↦
            let slot : p / 4 < SLOTS = omega arith in
            part_same f g _ (4 * (p / 4)) (4 * (p / 4) + 4) p
            (h.pairs (p / 4) slot) (k.pairs (p / 4) slot) (omega arith) (omega arith)
        | inr behind_pairs ↦ elim (cases_lt p 192) [
          | inl in_names ↦ part_same f g _ 64 192 p h.names k.names behind_pairs in_names
          | inr behind_names ↦ elim (cases_lt p 256) [
            | inl zero ↦ h.kinds_and_texts p behind_names zero
                ∙ sym (k.kinds_and_texts p behind_names zero)
            | inr behind_zeros ↦ elim (cases_lt p 512) [
              | inl in_tail ↦ part_same f g _ 256 512 p h.tail k.tail behind_zeros in_tail
              | inr in_codes ↦ same_codes f g (segments_of host libs) 0 1 p
                  (segments_of host libs)
                  (left_start _ (segments_ascend (order_of host) host libs)) same in_codes
                  (omega (arith, lt, h.size))
            ]
          ]
        ]
      ])
    where
      same : All (λ s. (j : ℕ) → j < 512 * blocks (length s.code)
          → get_or f (512 * block_of (segments_of host libs) s.slot + j) 0
          ≡ get_or g (512 * block_of (segments_of host libs) s.slot + j) 0)
          (segments_of host libs)
      same = λ i s lt j within.
          elim (cases_lt j (length (get_or (segments_of host libs) i s).code)) [
            | inl of_code ↦ single host libs h.accepted i s lt j _ _
                (h.codes i s lt j of_code) (k.codes i s lt j of_code)
            | inr beyond ↦ h.padding i s lt j beyond within
                ∙ sym (k.padding i s lt j beyond within)
          ]
