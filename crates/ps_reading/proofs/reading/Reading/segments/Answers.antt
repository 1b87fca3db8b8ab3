use Rattle.ps_reading.proofs.Vocabulary.{◌≡◌, ◌∙◌, None, subst, sym, ap, contents, order_of, segments, reading_fault, AreOfLink, HostFiles, ReadFiles, host_reading_fault, segments_in, segments_read}
use Rattle.ps_reading.proofs.OfLink.{of_link}
use Rattle.ps_reading.proofs.ReadingSlots.{fault_of_host, fault_of_none, host_of_files, segments_are}
use Rattle.ps_reading.proofs.reading.Reading.segments.Goals as goal

pub returns-in-Err : goal.returns-in-Err
returns-in-Err c =
    let f : ReadFiles = c.args.self.now in
    let file = c.self.inside.file.now in
    let libs = contents c.self.inside.libs.now in
    let refused = sym c.self.invariant ∙ c.in-Err.is in
    let no : reading_fault f.host f.libs ≡ None → ⊥ = λ none.
    let some = ap (λ (v : ReadFiles). reading_fault v.host v.libs) (sym c.self.view_is)
    ∙ fault_of_none file libs _ refused in
    let both = sym none ∙ some in
    cc in
    record {
      read = sym (ap (λ (v : ReadFiles). segments_read v.host v.libs) (sym c.self.view_is)
          ∙ ap segments_in refused);
      all = λ none. absurd (no none);
      known = λ none. absurd (no none);
    }

pub returns-in-Ok : goal.returns-in-Ok
returns-in-Ok c =
    let f : ReadFiles = c.args.self.now in
    let file = c.self.inside.file.now in
    let libs = contents c.self.inside.libs.now in
    let v : HostFiles = c.in-Ok.host in
    let is = sym c.self.invariant ∙ c.in-Ok.is in
    let all : reading_fault f.host f.libs ≡ None
    → c.segments.result.now ≡ segments (order_of f.host) f.host f.libs =
    λ none.
    let here : host_reading_fault v.order v.file v.libs ≡ None =
    fault_of_host file libs v is ∙
    (ap (λ (f : ReadFiles). reading_fault f.host f.libs) c.self.view_is ∙ none) in
    c.segments.ensures.all
    ∙ (segments_are v.order v.file v.libs here
    ∙ (ap (λ (x : HostFiles). segments x.order x.file x.libs) (host_of_files file libs v is)
    ∙ ap (λ (f : ReadFiles). segments (order_of f.host) f.host f.libs) c.self.view_is)) in
    record {
      read = c.segments.ensures.all ∙ sym (ap (λ (v : ReadFiles). segments_read v.host v.libs)
          (sym c.self.view_is) ∙ ap segments_in is);
      all = all;
      known = λ none. subst (AreOfLink f.host f.libs) (sym (all none))
          (of_link f.host f.libs none);
    }
