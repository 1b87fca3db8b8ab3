use Rattle.ps_resolve.proofs.Vocabulary.{◌≡◌, ◌∙◌, ℕ, List, None, sym, IfOk-weaker, Order, Segment, contents, linking_fault, reading_fault}
use Rattle.ps_resolve.proofs.FirstFaults.{first_read}
use Rattle.ps_resolve.proofs.WholeReadings.{all_known, links_are, none_first, stop_is}
use Rattle.ps_resolve.proofs.resolving.link_read.Goals as goal

pub returns-in-Some-clause-stop : goal.returns-in-Some-clause-stop
returns-in-Some-clause-stop g c =
    first_read c.args.host.now (contents c.args.libs.now) c.in-Some.fault
    (sym c.requires.first ∙ c.in-Some.is)

pub returns-in-None : goal.returns-in-None
returns-in-None g c =
    let host : List ℕ = c.args.host.now in
    let libs = contents c.args.libs.now in
    let given : List Segment = c.args.items.now in
    let order : Order = c.args.order in
    let none : reading_fault host libs ≡ None = sym c.requires.first ∙ c.in-None.is in
    let order_is = c.requires.of_host in
    let is = c.requires.all c.in-None.is in
    let links = c.link_whole.ensures in
    let made = c.link_whole.result in
    record {
      links = links_are host libs none order order_is given is made links.links;
      faultless = IfOk-weaker made (λ _. linking_fault order given ≡ None)
          (λ _. c.args.fault ≡ None) (λ _ _. c.in-None.is) links.sound;
      sound = none_first host libs none order order_is given is made links.sound;
      known = all_known host libs none order order_is given is made links.sound;
      stop = stop_is host libs none order order_is given is made links.stop;
    }
