use Rattle.std.proofs.Common.{refl, sym}
use Rattle.ps_arguments.proofs.request.link_of.Goals as goal

pub returns-clause-named : goal.returns-clause-named
returns-clause-named g c = (
  _,
  refl,
  record {
    host = c.in_ok-host.ensures.named.0;
    files = rw (c.in_ok-host.ensures.named.1, sym c.outputs_of.ensures.out)
        at c.in_ok-out.ensures.named;
    outputs = c.outputs_of.ensures.named;
    no_library = c.in_ok-check_out.ensures.other;
    no_host = rw c.outputs_of.ensures.named.options at c.in_ok-check_host.ensures.apart;
    apart = rw (c.outputs_of.ensures.named.map_file, c.outputs_of.ensures.named.options)
        at c.in_ok-check_map.ensures.apart;
  },
)
