-- The segments of files that were read without a fault: what is known of them, and what the links of
-- them say of the files.
use Rattle.ps_resolve.proofs.Vocabulary.{◌≡◌, ◌≤◌, ℕ, List, length, map, Bool, true, false, if◌then◌else◌, Option, None, Result, Ok, Err, refl, sym, arith, ltb, nat_tests, OpenedFile, FileOrder, file_order, opened_alone, opened_as, ◌∙◌, ap, subst, All, IfErr, IfOk, IfErr-weaker, IfOk-weaker, Order, Fault, HostFiles, Segment, all_read, host_reading_fault, opened_files, opened_host, slot_names, order_of, segments, linking_fault, AscendFrom, HasOneHost, first_fault, reading_fault, AreOfLink, AreStopped, AreLinks, AreWhole, IsStopped, Stop, SLOT_COUNT}
use Rattle.ps_resolve.specs.FilesRead.{WereRead}
use Rattle.ps_resolve.specs.Plans.{IsPlan, Links}
use Rattle.ps_reading.proofs.ReadingSlots.{fault_of_host, host_of_files, segments_are}
use Rattle.ps_resolve.proofs.FirstFaults.{first_linked, stopped}
use Rattle.ps_reading.proofs.OfLink.{has_host, of_link, slots_fine}
use Rattle.ps_reading.proofs.ReadingKnown.{ascend, one_host}
use Rattle.ps_reading.proofs.SharedRecords.{all_sound, read_alike}
use Rattle.ps_reading.specs.KnownSegments.{IsRead}
use Rattle.ps_words.specs.declared.fault.Reason.TheVariants as reason

-- a host that was opened has a whole dictionary
not_short : (short : Bool) (of : FileOrder) (file : List ℕ) (o : OpenedFile)
    → (if short then Err reason.ShortFile else opened_as file of) ≡ Ok o → short ≡ false
not_short true of file o h = cc
not_short false of file o h = refl

pub whole_of : (host : List ℕ) (o : OpenedFile) → Ok o ≡ opened_alone host → 512 ≤ length host
whole_of host o h = let e : ltb (length host) 512 ≡ false =
    not_short (ltb (length host) 512) (file_order host) host o (sym h) in grind (arith, nat_tests)

module _ (host : List ℕ) (libs : List (List ℕ)) (none : reading_fault host libs ≡ None)
    (order : Order) (order_is : order ≡ order_of host) (given : List Segment)
    (is : given ≡ segments (order_of host) host libs) where
  abbrev all : List Segment
  all = segments (order_of host) host libs

  pub are_whole : (file : List ℕ) (files : List (List ℕ)) → All (IsRead order file files) given
      → length given ≤ SLOT_COUNT → AreWhole order given
  are_whole file files read few = record {
    sound = all_sound order file files given read;
    has_host = rw is (has_host host libs none);
    one_host = subst HasOneHost (sym is)
        (one_host (order_of host) host libs (slots_fine host libs none));
    ascending = subst (λ (ss : List Segment). AscendFrom 0 (map (λ s. s.slot) ss)) (sym is)
        (ascend (order_of host) host libs);
    alike = read_alike order file files given read;
    most = few;
  }

  module _ (links : Result Links Stop) where
    pub links_are : IfOk links (AreLinks order given) → IfOk links (AreLinks (order_of host) all)
    links_are h = subst (λ (o : Order). IfOk links (AreLinks o all)) order_is
        (subst (λ (segs : List Segment). IfOk links (AreLinks order segs)) is h)

    same : linking_fault order given ≡ linking_fault (order_of host) all
    same = ap (linking_fault order) is ∙ ap (λ (o : Order). linking_fault o all) order_is

    pub none_first : IfOk links (λ _. linking_fault order given ≡ None)
        → IfOk links (λ _. first_fault host libs ≡ None)
    none_first h = IfOk-weaker links (λ _. linking_fault order given ≡ None)
        (λ _. first_fault host libs ≡ None)
        (λ _ e. first_linked host libs none ∙ sym same ∙ e) h

    pub all_known : IfOk links (λ _. linking_fault order given ≡ None)
        → IfOk links (λ _. AreOfLink host libs all)
    all_known h = IfOk-weaker links (λ _. linking_fault order given ≡ None)
        (λ _. AreOfLink host libs all) (λ _ _. of_link host libs none) h

    pub stop_is : IfErr links (AreStopped order given) → IfErr links (IsStopped host libs)
    stop_is h = IfErr-weaker links (AreStopped order given) (IsStopped host libs)
        (λ stop d. stopped host libs none stop
        (subst (λ (o : Order). AreStopped o all stop) order_is
        (subst (λ (segs : List Segment). AreStopped order segs stop) is d))) h

-- what was read of a host that was opened, and of its libraries
module _ (host : List ℕ) (libs : List (List ℕ)) (v : HostFiles)
    (opened : opened_host host libs ≡ Ok v) where
  pub order_of_files : v.order ≡ order_of host
  order_of_files = ap (λ (x : HostFiles). x.order) (host_of_files host libs v opened)

  all_of : (fault : Option Fault) → fault ≡ host_reading_fault v.order v.file v.libs
      → fault ≡ None → (reading_fault host libs ≡ None)
      × (all_read v.order v.file (opened_files v.order v.libs) ≡ segments (order_of host) host libs)
  all_of fault first none =
      let free : host_reading_fault v.order v.file v.libs ≡ None = sym first ∙ none in (
        sym (fault_of_host host libs v opened) ∙ free,
        segments_are v.order v.file v.libs free
            ∙ ap (λ (x : HostFiles). segments x.order x.file x.libs)
            (host_of_files host libs v opened),
      )

  pub were_read : (order : Order) (ss : List Segment) (fault : Option Fault) → order ≡ v.order
      → fault ≡ host_reading_fault v.order v.file v.libs
      → (fault ≡ None → ss ≡ all_read v.order v.file (opened_files v.order v.libs))
      → All (IsRead v.order v.file (opened_files v.order v.libs)) ss → length ss ≤ SLOT_COUNT
      → WereRead host libs order ss fault
  were_read order ss fault is first all read few = record {
    of_host = is ∙ order_of_files;
    first = first ∙ fault_of_host host libs v opened;
    all = λ none. all none ∙ (all_of fault first none).1;
    whole = λ none. let t = all_of fault first none in
        are_whole host libs t.0 order (is ∙ order_of_files) ss (all none ∙ t.1) v.file
        (opened_files v.order v.libs)
        (subst (λ (o : Order). All (IsRead o v.file (opened_files v.order v.libs)) ss) (sym is)
        read) few;
  }

  -- where there is no fault, what was read is all segments of the link
  pub all_of_link : (fault : Option Fault) → fault ≡ host_reading_fault v.order v.file v.libs
      → fault ≡ None → (ss : List Segment)
      → ss ≡ all_read v.order v.file (opened_files v.order v.libs)
      → ss ≡ segments (order_of host) host libs
  all_of_link fault first none ss all = all ∙ (all_of fault first none).1

  -- the plan of such a link
  pub plan_of : (links : Links) → AreLinks (order_of host) (segments (order_of host) host libs) links
      → (file : List ℕ) → file ≡ host → (sources : List Segment)
      → sources ≡ segments (order_of host) host libs
      → (names : List (List ℕ)) → names ≡ slot_names v.file sources
      → IsPlan host libs (record { order = links.order; host = file; names = names; sources = sources; edits = links.edits; definitions = links.definitions; privates = links.privates; next_free = links.next_free; private_words = links.private_words; data_size = links.data_size })
  plan_of links are file of_host sources is names named = record {
    order = are.order;
    of_host = of_host;
    names = named ∙ (ap (slot_names v.file) is
        ∙ ap (λ (x : HostFiles). slot_names x.file (segments (order_of host) host libs))
        (host_of_files host libs v opened));
    sources = is;
    edits = are.edits;
    definitions = are.definitions;
    privates = are.privates;
    next_free = are.next_free;
    private_words = are.private_words;
    data_size = are.data_size;
  }
