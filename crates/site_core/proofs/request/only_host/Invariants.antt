use Rattle.std.proofs.Common.{◌≡◌, ◌++◌, drop, map}
use Rattle.std.specs.Option.{option_copied}
use Rattle.httparse.specs.Spans.{header_bytes}
use Rattle.site_core.specs.Serving as spec
use Rattle.site_core.proofs.Hosts.{listed}
use Rattle.site_core.proofs.request.only_host.Given as goal

abbrev pub invariant-loop-header : goal.invariant-loop-header
invariant-loop-header l =
    spec.hosts (map (header_bytes l.request) l.headers)
    ≡ listed (option_copied l.host) ++ spec.hosts (map (header_bytes l.request) (drop l.header-index l.headers))
