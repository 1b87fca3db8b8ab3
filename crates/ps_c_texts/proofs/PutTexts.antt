-- What is put of files, and why it is not, by what is known of its parts.
use Rattle.std.proofs.Common.{◌≡◌, ◌≤◌, ◌∙◌, if◌then◌else◌, ℕ, List, [], Bool, Option, Some, None, true, false, ap, inl, inr, length, nat_lt, option_and_then, refl, subst, sum, sym, true≢false}
use Rattle.std.specs.Prelude.{All, IsUtf8, is_some, unwrap_or}
use Rattle.ps_codefile.specs.Dictionary.{FileOrder, Zero, Ordered, Mixed, block_len, file_order}
use Rattle.ps_resolve.specs.FaultNames.{fault_name}
use Rattle.ps_linkfile.specs.ShowText.{order_fault, show_fault}
use Rattle.ps_linkfile.specs.declared.unmade.Refusal.{Refusal}
use Rattle.ps_linkfile.specs.declared.unmade.Unmade.{Unmade}
use Rattle.ps_linkfile.specs.declared.unmade.Unmade.TheVariants.{Refused, Memory}
use Rattle.ps_report.specs.Reported.{Reported, warning_count}
use Rattle.ps_report.specs.Reports.{IsReport}
use Rattle.ps_writing.specs.declared.rows.Form.{Form}
use Rattle.ps_texts.specs.Kinds.{needs_names}
use Rattle.ps_words.specs.FaultPlaces.{in_file}
use Rattle.ps_words.specs.declared.fault.Fault.{Fault}
use Rattle.ps_words.specs.declared.fault.Reason.TheVariants as reason
use Rattle.ps_texts.specs.Texts.{IsMadeOf, bytes_in, report_bytes, report_status, status_in}
use Rattle.ps_texts.specs.Unmade.{CanLackMemory, HostCanRefuse, IsRefusedFor, WhyUnmade}
use Rattle.ps_texts.specs.declared.kinds.HostText.{HostText}
use Rattle.ps_texts.specs.declared.kinds.HostText.TheVariants as of_host
use Rattle.ps_texts.specs.declared.kinds.NamedText.TheVariants as of_named
use Rattle.ps_texts.specs.declared.kinds.ReportText.{ReportText}
use Rattle.ps_texts.specs.declared.kinds.TextKind.{TextKind}
use Rattle.ps_texts.specs.declared.kinds.TextKind.TheVariants as kind
use Rattle.ps_texts.specs.declared.texts.FilesText.{FilesText}
use Rattle.ps_c_link.specs.Libraries.{split}
use Rattle.ps_c_link.specs.Outcomes.{not_done_of}
use Rattle.ps_c_link.specs.Rooms.{RoomBeginsWith}
use Rattle.ps_c_link.specs.WhyUnmade.{WhyCallFails}
use Rattle.ps_c_link.specs.declared.outcome.CallError.{CallError}
use Rattle.ps_c_link.specs.declared.outcome.CallError.TheVariants as call
use Rattle.ps_c_link.specs.declared.outcome.Done.{Done}
use Rattle.ps_c_link.specs.declared.outcome.Done.TheVariants as done
use Rattle.ps_c_link.specs.declared.outcome.NotDone.{NotDone}
use Rattle.ps_c_link.specs.declared.outcome.NotDone.TheVariants as not_done
use Rattle.ps_c_link.specs.declared.libraries.TheConstants.{LIBRARIES_IN_PLACE}
use Rattle.ps_c_link.specs.declared.outcome.Unput.{Unput}
use Rattle.ps_c_link.specs.declared.outcome.Unput.TheVariants as unput
use Rattle.ps_c_link.specs.declared.outcome.WrongInputs.TheVariants as wrong
use Rattle.ps_c_texts.specs.Checks.{HasItsLengths, WhyUnnamed, told_report}
use Rattle.ps_c_texts.specs.Kinds.{report_text}
use Rattle.ps_c_texts.specs.Printed.{HasInputs, HavePlaces, IsMade, IsPrinted, IsPut, IsTold, MayLackMemory, WhyBytesUnput, WhyUnprinted, WhyUnprintedBy, WhyUnput, is_of_host, no_paths}

no_report : (what : ReportText × Form) → None ≡ Some what → ⊥
no_report what e =
    true≢false (sym (ap (λ (o : Option (ReportText × Form)). is_some o) e))

-- there may be no memory for a report
pub report_lacks : (what : ReportText) (form : Form) (room : List ℕ) (names : List (List ℕ))
    (host : List ℕ) (libs : List (List ℕ))
    → WhyUnput (kind.Named (of_named.OfReport what form)) room names host libs
    (unput.Unmade Memory)
unfolding WhyUnput
report_lacks what form room names host libs = inl tt

-- what is printed of a report that was put, and of one that was not
module _ (what : ReportText) (form : Form) (names : List (List ℕ)) (host : List ℕ)
    (libs : List (List ℕ)) (r : Reported) (is : IsReport names host libs r) where
  is_made : IsMade (kind.Named (of_named.OfReport what form)) names host libs
      (report_bytes what form r)
  is_made = (
    report_status what false (warning_count r.findings) r.verdict,
    (r, is, refl, refl),
  )

  pub report_put : (old new : List ℕ) (size : ℕ) (d : Done)
      → RoomBeginsWith (report_bytes what form r) old new
      → size ≡ length (report_bytes what form r) → d ≡ told_report r size
      → IsPut (kind.Named (of_named.OfReport what form)) names host libs old new d
  unfolding IsPut
  report_put old new size d begins e told = (
    report_bytes what form r,
    is_made,
    begins,
    (r, is, refl, told ∙ ap (λ (n : ℕ). told_report r n) e),
  )

  pub report_unput : (room : List ℕ) (why : Unput)
      → WhyBytesUnput (report_bytes what form r) room why
      → WhyUnput (kind.Named (of_named.OfReport what form)) room names host libs why
  unfolding WhyUnput
  report_unput room (unput.Unmade (Refused refusal)) h = absurd h
  report_unput room (unput.Unmade Memory) h = report_lacks what form room names host libs
  report_unput room (unput.TooSmall t) h = (report_bytes what form r, is_made, h)

-- a text that is made of a report
is_report : (k : TextKind) (what : ReportText × Form) → report_text k ≡ Some what
    → k ≡ kind.Named (of_named.OfReport what.0 what.1)
is_report (kind.Named (of_named.OfReport found form)) what e =
    ap (λ (o : Option (ReportText × Form)). kind.Named (of_named.OfReport
    (unwrap_or o what).0 (unwrap_or o what).1)) e
is_report (kind.Named (of_named.List how)) what e = absurd (no_report what e)
is_report (kind.OfLink text form) what e = absurd (no_report what e)
is_report (kind.OfHost text) what e = absurd (no_report what e)
is_report kind.Wanted what e = absurd (no_report what e)

pub is_report_put : (k : TextKind) (what : ReportText) (form : Form) (names : List (List ℕ))
    (host : List ℕ) (libs : List (List ℕ)) (old new : List ℕ) (d : Done)
    → report_text k ≡ Some (what, form)
    → IsPut (kind.Named (of_named.OfReport what form)) names host libs old new d
    → IsPut k names host libs old new d
is_report_put k what form names host libs old new d e h =
    subst (λ (t : TextKind). IsPut t names host libs old new d)
    (sym (is_report k (what, form) e)) h

pub is_report_unput : (k : TextKind) (what : ReportText) (form : Form) (room : List ℕ)
    (names : List (List ℕ)) (host : List ℕ) (libs : List (List ℕ)) (why : Unput)
    → report_text k ≡ Some (what, form)
    → WhyUnput (kind.Named (of_named.OfReport what form)) room names host libs why
    → WhyUnput k room names host libs why
is_report_unput k what form room names host libs why e h =
    subst (λ (t : TextKind). WhyUnput t room names host libs why)
    (sym (is_report k (what, form) e)) h

-- a text that is not made of a report and was put, or was not
module _ (k : TextKind) (names : List (List ℕ)) (host : List ℕ) (libs : List (List ℕ)) where
  pub other_put : {A : Type 0} (t : FilesText A) (old new : List ℕ) (size : ℕ)
      → report_text k ≡ None → IsMadeOf k names host libs t
      → RoomBeginsWith (bytes_in t) old new → size ≡ length (bytes_in t)
      → IsPut k names host libs old new (done.Text size)
  unfolding IsPut
  other_put t old new size none made begins e = (
    bytes_in t,
    (status_in false t, made false),
    begins,
    subst (λ (r : Option (ReportText × Form)). IsTold r names host libs (bytes_in t)
        (done.Text size)) (sym none) (ap (λ (n : ℕ). done.Text n) e),
  )

  pub other_unput : {A : Type 0} (t : FilesText A) (room : List ℕ) (why : Unput)
      → IsMadeOf k names host libs t → WhyBytesUnput (bytes_in t) room why
      → WhyUnput k room names host libs why
  unfolding WhyUnput
  other_unput t room (unput.Unmade (Refused r)) made h = absurd h
  other_unput t room (unput.Unmade Memory) made h =
      inr (bytes_in t, (status_in false t, made false))
  other_unput t room (unput.TooSmall small) made h =
      (bytes_in t, (status_in false t, made false), h)

  pub other_unmade : (room : List ℕ) (why : Unmade) → WhyUnmade k host libs why
      → WhyUnput k room names host libs (unput.Unmade why)
  unfolding WhyUnput
  other_unmade room (Refused r) h = h
  other_unmade room Memory h = inl h

-- a text of which the files have names needs memory whatever they are
named_may_lack : (k : TextKind) (names : List (List ℕ)) (host : List ℕ) (libs : List (List ℕ))
    → needs_names k ≡ true → MayLackMemory k names host libs
named_may_lack (kind.OfLink what form) names host libs named = absurd (true≢false (sym named))
named_may_lack (kind.OfHost what) names host libs named = absurd (true≢false (sym named))
named_may_lack kind.Wanted names host libs named = absurd (true≢false (sym named))
named_may_lack (kind.Named what) names host libs named = inl tt

-- a call for a text with names
module _ (k : TextKind) (host libs lengths names name_lengths : List ℕ)
    (named : needs_names k ≡ true) where
  module _ (right : HasItsLengths libs lengths names name_lengths)
      (utf8 : All IsUtf8 (split names name_lengths)) where
    inputs : HasInputs true libs lengths names name_lengths
    inputs = ((right.0, (right.1, right.2)), utf8)

    pub named_put : (given parts : List (List ℕ)) (old new : List ℕ) (d : Done)
        → given ≡ split names name_lengths → parts ≡ split libs lengths
        → IsPut k given host parts old new d
        → IsPrinted k host libs lengths names name_lengths old new d
    unfolding IsPrinted
    named_put given parts old new d are cut h = rw named (inputs, rw (are, cut) at h)

    unput_of : (room : List ℕ) (why : Unput)
        → WhyUnput k room (split names name_lengths) host (split libs lengths) why
        → WhyUnprintedBy true k room host libs lengths names name_lengths (not_done.Unput why)
    unfolding WhyUnput
    unput_of room (unput.Unmade (Refused r)) h = (inputs, h)
    unput_of room (unput.Unmade Memory) h = (inputs, λ few. h)
    unput_of room (unput.TooSmall t) h = (inputs, h)

    pub named_unput : (given parts : List (List ℕ)) (room : List ℕ) (why : Unput)
        → given ≡ split names name_lengths → parts ≡ split libs lengths
        → WhyUnput k room given host parts why
        → WhyUnprinted k room host libs lengths names name_lengths (not_done.Unput why)
    unfolding WhyUnprinted
    named_unput given parts room why are cut h =
        subst (λ (b : Bool). WhyUnprintedBy b k room host libs lengths names name_lengths
        (not_done.Unput why)) (sym named) (unput_of room why (rw (are, cut) at h))

    pub named_lacks : (room : List ℕ) → WhyUnprinted k room host libs lengths names name_lengths
        (not_done.Unput (unput.Unmade Memory))
    unfolding WhyUnprinted
    named_lacks room =
        rw named (
          inputs,
          λ few. named_may_lack k (split names name_lengths) host
              (split libs lengths) named,
        )

    pub named_unnamed : (room : List ℕ) (why : NotDone)
        → WhyUnnamed (All IsUtf8 (split names name_lengths)) why
        → WhyUnprinted k room host libs lengths names name_lengths why
    named_unnamed room (not_done.Wrong wrong.Names) h = absurd (h utf8)
    named_unnamed room (not_done.Wrong wrong.Lengths) h = absurd h
    named_unnamed room (not_done.Unput (unput.Unmade Memory)) h = named_lacks room
    named_unnamed room (not_done.Unput (unput.Unmade (Refused r))) h = absurd h
    named_unnamed room (not_done.Unput (unput.TooSmall t)) h = absurd h

  pub named_lengths : (room : List ℕ) → (HasItsLengths libs lengths names name_lengths → ⊥)
      → WhyUnprinted k room host libs lengths names name_lengths (not_done.Wrong wrong.Lengths)
  unfolding WhyUnprinted
  named_lengths room h = rw named (λ given. h (given.0, given.1.0, given.1.1))

  pub named_names : (room : List ℕ) → HasItsLengths libs lengths names name_lengths
      → (All IsUtf8 (split names name_lengths) → ⊥)
      → WhyUnprinted k room host libs lengths names name_lengths (not_done.Wrong wrong.Names)
  unfolding WhyUnprinted
  named_names room right h = rw named ((right.0, (right.1, right.2)), h)

-- a text that has no names of files is the same whatever these are
module _ (given names : List (List ℕ)) (host : List ℕ) (libs : List (List ℕ)) where
  any_made : (k : TextKind) (bytes : List ℕ) → needs_names k ≡ false
      → IsMade k given host libs bytes → IsMade k names host libs bytes
  any_made (kind.OfLink what form) bytes none h = h
  any_made (kind.OfHost what) bytes none h = h
  any_made kind.Wanted bytes none h = h
  any_made (kind.Named what) bytes none h = absurd (true≢false none)

  any_told : (k : TextKind) (bytes : List ℕ) (d : Done) → needs_names k ≡ false
      → IsTold (report_text k) given host libs bytes d
      → IsTold (report_text k) names host libs bytes d
  any_told (kind.OfLink what form) bytes d none h = h
  any_told (kind.OfHost what) bytes d none h = h
  any_told kind.Wanted bytes d none h = h
  any_told (kind.Named what) bytes d none h = absurd (true≢false none)

  any_may_lack : (k : TextKind) → needs_names k ≡ false → MayLackMemory k given host libs
      → MayLackMemory k names host libs
  any_may_lack k none (inl lacks) = inl lacks
  any_may_lack k none (inr made) = inr (made.0, any_made k made.0 none made.1)

  any_put : (k : TextKind) (old new : List ℕ) (d : Done) → needs_names k ≡ false
      → IsPut k given host libs old new d → IsPut k names host libs old new d
  unfolding IsPut
  any_put k old new d none h =
      (h.0, any_made k h.0 none h.1, h.2, any_told k h.0 d none h.3)

-- a fault of a file as a whole is of no slot
shown_slot : (short : Bool) (order : FileOrder) (f : Fault)
    → (if short then Some (in_file 0 reason.ShortFile) else order_fault order) ≡ Some f
    → f.slot ≡ None
shown_slot true order f e =
    sym (ap (λ (o : Option Fault). option_and_then (λ (g : Fault). g.slot) o) e)
shown_slot false Zero f e = absurd (true≢false (sym (ap (λ (o : Option Fault). is_some o) e)))
shown_slot false (Ordered how) f e =
    absurd (true≢false (sym (ap (λ (o : Option Fault). is_some o) e)))
shown_slot false Mixed f e =
    sym (ap (λ (o : Option Fault). option_and_then (λ (g : Fault). g.slot) o) e)

shown_whole : (host : List ℕ) (f : Fault) → show_fault host ≡ Some f → f.slot ≡ None
shown_whole host f e = shown_slot (nat_lt (length host) block_len) (file_order host) f e

-- a file is refused as one that cannot be shown
unshown : (host : List ℕ) (what : HostText) (f : Fault) → HostCanRefuse what host f
    → show_fault host ≡ Some f
unshown host (of_host.Show form) f h = h
unshown host of_host.Had f h = h
unshown host of_host.CodeType f h = absurd h

-- and has no name, whatever the libraries are
same_name : (host : List ℕ) (libs : List (List ℕ)) (f : Fault) → f.slot ≡ None
    → fault_name host [] f ≡ fault_name host libs f
unfolding fault_name
same_name host libs f none = rw none refl

-- a text of the host's file alone is the same whatever the libraries are
module _ (names : List (List ℕ)) (host : List ℕ) (libs : List (List ℕ)) where
  host_made : (k : TextKind) (bytes : List ℕ) → is_of_host k ≡ true
      → IsMade k names host [] bytes → IsMade k names host libs bytes
  host_made (kind.OfLink what form) bytes alone h = absurd (true≢false (sym alone))
  host_made (kind.OfHost what) bytes alone h = h
  host_made kind.Wanted bytes alone h = absurd (true≢false (sym alone))
  host_made (kind.Named what) bytes alone h = absurd (true≢false (sym alone))

  host_told : (k : TextKind) (bytes : List ℕ) (d : Done) → is_of_host k ≡ true
      → IsTold (report_text k) names host [] bytes d
      → IsTold (report_text k) names host libs bytes d
  host_told (kind.OfLink what form) bytes d alone h = absurd (true≢false (sym alone))
  host_told (kind.OfHost what) bytes d alone h = h
  host_told kind.Wanted bytes d alone h = absurd (true≢false (sym alone))
  host_told (kind.Named what) bytes d alone h = absurd (true≢false (sym alone))

  host_put : (k : TextKind) (old new : List ℕ) (d : Done) → is_of_host k ≡ true
      → IsPut k names host [] old new d → IsPut k names host libs old new d
  unfolding IsPut
  host_put k old new d alone h =
      (h.0, host_made k h.0 alone h.1, h.2, host_told k h.0 d alone h.3)

  host_can_lack : (k : TextKind) → is_of_host k ≡ true → CanLackMemory k host []
      → CanLackMemory k host libs
  host_can_lack (kind.OfLink what form) alone h = absurd (true≢false (sym alone))
  host_can_lack (kind.OfHost what) alone h = h
  host_can_lack kind.Wanted alone h = absurd (true≢false (sym alone))
  host_can_lack (kind.Named what) alone h = tt

  host_may_lack : (k : TextKind) → is_of_host k ≡ true → MayLackMemory k names host []
      → MayLackMemory k names host libs
  host_may_lack k alone (inl lacks) = inl (host_can_lack k alone lacks)
  host_may_lack k alone (inr made) = inr (made.0, host_made k made.0 alone made.1)

  host_refused : (k : TextKind) (r : Refusal) → is_of_host k ≡ true → IsRefusedFor k host [] r
      → IsRefusedFor k host libs r
  host_refused (kind.OfLink what form) r alone h = absurd (true≢false (sym alone))
  host_refused (kind.OfHost what) r alone h = (
    h.0,
    h.1 ∙ same_name host libs r.fault (shown_whole host r.fault (unshown host what r.fault h.0)),
  )
  host_refused kind.Wanted r alone h = absurd (true≢false (sym alone))
  host_refused (kind.Named what) r alone h = absurd (true≢false (sym alone))

  host_unput : (k : TextKind) (room : List ℕ) (why : Unput) → is_of_host k ≡ true
      → WhyUnput k room names host [] why → WhyUnput k room names host libs why
  unfolding WhyUnput
  host_unput k room (unput.Unmade (Refused r)) alone h = host_refused k r alone h
  host_unput k room (unput.Unmade Memory) alone h = host_may_lack k alone h
  host_unput k room (unput.TooSmall t) alone h = (h.0, host_made k h.0 alone h.1, h.2)

-- a call for a text without names
module _ (k : TextKind) (host libs lengths names name_lengths : List ℕ)
    (none : needs_names k ≡ false) where
  pub nameless_put : (old new : List ℕ) (d : Done) → sum lengths ≡ length libs
      → IsPut k no_paths host (split libs lengths) old new d
      → IsPrinted k host libs lengths names name_lengths old new d
  unfolding IsPrinted
  nameless_put old new d right h = rw none (
    ((right, tt), tt),
    any_put no_paths (split names name_lengths) host (split libs lengths) k old new d none h,
  )

  pub nameless_lengths : (room : List ℕ) → (sum lengths ≡ length libs → ⊥)
      → WhyUnprinted k room host libs lengths names name_lengths (not_done.Wrong wrong.Lengths)
  unfolding WhyUnprinted
  nameless_lengths room h = rw none (λ right. h right.0)

  -- of a text of the host's file alone
  module _ (right : sum lengths ≡ length libs) (alone : is_of_host k ≡ true) where
    pub of_host_put : (old new : List ℕ) (d : Done) → IsPut k no_paths host [] old new d
        → IsPrinted k host libs lengths names name_lengths old new d
    of_host_put old new d h = nameless_put old new d right
        (host_put no_paths host (split libs lengths) k old new d alone h)

    host_fails : (room : List ℕ) (why : Unput)
        → WhyUnput k room no_paths host (split libs lengths) why
        → WhyUnprintedBy false k room host libs lengths names name_lengths (not_done.Unput why)
    unfolding WhyUnput
    host_fails room (unput.Unmade (Refused r)) h = (((right, tt), tt), h)
    host_fails room (unput.Unmade Memory) h = (
      ((right, tt), tt),
      λ few. any_may_lack no_paths (split names name_lengths) host (split libs lengths) k none h,
    )
    host_fails room (unput.TooSmall t) h = (
      ((right, tt), tt),
      (
        h.0,
        any_made no_paths (split names name_lengths) host (split libs lengths) k h.0 none h.1,
        h.2,
      ),
    )

    pub of_host_unput : (room : List ℕ) (why : Unput) → WhyUnput k room no_paths host [] why
        → WhyUnprinted k room host libs lengths names name_lengths (not_done.Unput why)
    unfolding WhyUnprinted
    of_host_unput room why h =
        subst (λ (b : Bool). WhyUnprintedBy b k room host libs lengths names name_lengths
        (not_done.Unput why)) (sym none) (host_fails room why
        (host_unput no_paths host (split libs lengths) k room why alone h))

  -- of one that looks at the libraries
  module _ (all : is_of_host k ≡ false) where
    few_places : HavePlaces k (length lengths) → length lengths ≤ LIBRARIES_IN_PLACE
    few_places (inl alone) = absurd (true≢false (sym alone ∙ all))
    few_places (inr few) = few

    fails_of : (room : List ℕ) (error : CallError)
        → WhyCallFails (WhyUnput k room no_paths host) libs lengths error
        → WhyUnprintedBy false k room host libs lengths names name_lengths (not_done_of error)
    unfolding WhyUnput
    fails_of room call.WrongLengths h = λ right. h right.0
    fails_of room (call.Unput (unput.Unmade (Refused r))) h = (((h.0, tt), tt), h.1)
    fails_of room (call.Unput (unput.Unmade Memory)) h = (
      ((h.0, tt), tt),
      λ places. any_may_lack no_paths (split names name_lengths) host (split libs lengths) k none
          (h.1 (few_places places)),
    )
    fails_of room (call.Unput (unput.TooSmall t)) h = (
      ((h.0, tt), tt),
      (
        h.1.0,
        any_made no_paths (split names name_lengths) host (split libs lengths) k h.1.0 none h.1.1,
        h.1.2,
      ),
    )

    pub nameless_unput : (room : List ℕ) (error : CallError) (e : NotDone)
        → WhyCallFails (WhyUnput k room no_paths host) libs lengths error
        → e ≡ not_done_of error
        → WhyUnprinted k room host libs lengths names name_lengths e
    unfolding WhyUnprinted
    nameless_unput room error e h is =
        subst (λ (why : NotDone). WhyUnprintedBy (needs_names k) k room host libs lengths names
        name_lengths why) (sym is) (rw none (fails_of room error h))
