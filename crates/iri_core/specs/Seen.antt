-- The texts that the code's pieces of a reference stand for.
use Rattle.std.specs.Option.{option_copied}
use Rattle.iri_core.specs.declared.resolution.Pieces.{Pieces}
use Rattle.iri_core.specs.Resolution.{Components}

abbrev pub seen : Pieces → Components
seen p =
    record {
      scheme = option_copied p.scheme;
      authority = option_copied p.authority;
      path = p.path.now;
      query = option_copied p.query;
      fragment = option_copied p.fragment;
    }
