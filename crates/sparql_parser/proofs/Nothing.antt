-- No token is no terminal.
use Rattle.std.proofs.Common.{◌≡◌, Bool, false, refl}
use Rattle.sparql_resolve.specs.declared.kind.Kind.TheVariants as kinds
use Rattle.sparql_parser.specs.declared.tokens.Terminal.{Terminal}
use Rattle.sparql_parser.specs.declared.tokens.Terminal.TheVariants as terminals
use Rattle.sparql_parser.specs.Grammar.{is_terminal}

pub no_terminal : (t : Terminal) → is_terminal t kinds.Unknown ≡ false
unfolding is_terminal
no_terminal terminals.IriRef = refl
no_terminal terminals.Namespace = refl
no_terminal terminals.Distinct = refl
no_terminal terminals.Where = refl
no_terminal terminals.Order = refl
no_terminal terminals.By = refl
no_terminal terminals.End = refl
no_terminal terminals.OpenBrace = refl
no_terminal terminals.Union = refl
no_terminal terminals.Dot = refl
no_terminal terminals.Semicolon = refl
no_terminal terminals.Comma = refl
no_terminal terminals.ShutSquare = refl
no_terminal terminals.OpenParen = refl
no_terminal terminals.ShutParen = refl
no_terminal terminals.Or = refl
no_terminal terminals.And = refl
