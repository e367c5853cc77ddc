-- Marks: punctuation and operators (SPARQL 1.1, section 19.8).
use Rattle.std.specs.Prelude.{ℕ, ◌==◌, ◌||◌, List, [], ◌∷◌, if◌then◌else◌}
use Rattle.expr_eval.specs.declared.expr.CompareOp.TheVariants as compares
use Rattle.expr_eval.specs.declared.expr.Sign.TheVariants as signs
use Rattle.sparql_resolve.specs.declared.kind.Kind.{Kind}
use Rattle.sparql_resolve.specs.declared.kind.Kind.TheVariants as kinds

-- a mark of two characters, by its first
abbrev pub long_mark : ℕ → Kind
long_mark b =
    if b == 33 then kinds.Compare compares.NotEqual  -- !=
    else (if b == 60 then kinds.Compare compares.LessEqual  -- <=
    else (if b == 62 then kinds.Compare compares.GreaterEqual  -- >=
    else (if b == 38 then kinds.And  -- &&
    else (if b == 124 then kinds.Or  -- ||
    else (if b == 94 then kinds.Carets  -- ^^
    else kinds.Unknown)))))

-- a mark of one character
abbrev pub short_mark : ℕ → Kind
short_mark b =
    if b == 123 then kinds.OpenBrace  -- {
    else (if b == 125 then kinds.ShutBrace  -- }
    else (if b == 40 then kinds.OpenParen  -- (
    else (if b == 41 then kinds.ShutParen  -- )
    else (if b == 91 then kinds.OpenSquare 0  -- [
    else (if b == 93 then kinds.ShutSquare  -- ]
    else (if b == 46 then kinds.Dot  -- .
    else (if b == 59 then kinds.Semicolon  -- ;
    else (if b == 44 then kinds.Comma  -- ,
    else (if b == 42 then kinds.Star  -- *
    else (if b == 43 then kinds.Sign signs.Plus  -- +
    else (if b == 45 then kinds.Sign signs.Minus  -- -
    else (if b == 33 then kinds.Bang  -- !
    else (if b == 61 then kinds.Compare compares.Equal  -- =
    else (if b == 60 then kinds.Compare compares.Less  -- <
    else (if b == 62 then kinds.Compare compares.Greater  -- >
    else (if b == 47 || b == 124 || b == 94 || b == 63 then kinds.Unsupported  -- / | ^ ?
    else kinds.Unknown))))))))))))))))

-- what the bytes of a Mark are
abbrev pub mark_kind : List ℕ → Kind
mark_kind (a ∷ []) = short_mark a
mark_kind (a ∷ b ∷ []) = long_mark a
mark_kind _ = kinds.Unknown
