-- The variables of resolved tokens: those that are written have names, and all are below the width.
use Rattle.std.proofs.Common.{◌≡◌, ◌<◌, ◌≤◌, ◌+◌, ℕ, List, [], ◌∷◌, ◌++◌, Bool, true, false, Option, Some, None, Result, Ok, Err, length, refl, rules, arith, if◌then◌else◌}
use Rattle.std.specs.Prelude.{nat_lt, ◌==◌, cond, position, bytes_eq, codes}
use Rattle.std.specs.Map.{lookup}
use Rattle.std.specs.Option.{option_or}
use Rattle.std.proofs.lemmas.Bool.{ltb-true}
use Rattle.std.proofs.lemmas.List.Quantifiers.{position-Some}
use Rattle.indexmap.specs.IndexMap.{insert_entry}
use Rattle.terminals.specs.Texts.{plain, variable_text}
use Rattle.terminals.specs.Values.{iri_text, string_text, prefix_text, local_text, label_text, tag_text}
use Rattle.sparql_lexer.specs.declared.kind.QueryKind.{QueryKind}
use Rattle.sparql_lexer.specs.declared.kind.QueryKind.TheVariants as lexed
use Rattle.sparql_lexer.specs.declared.token.QueryToken.{QueryToken}
use Rattle.sparql_resolve.specs.declared.fault.Fault.{Fault}
use Rattle.sparql_resolve.specs.declared.fault.Fault.TheVariants.{Syntax, Deep}
use Rattle.sparql_resolve.specs.declared.kind.Kind.{Kind}
use Rattle.sparql_resolve.specs.declared.kind.Kind.TheVariants as kinds
use Rattle.sparql_resolve.specs.declared.kind.Token.{Token}
use Rattle.sparql_resolve.specs.declared.state.Before.{Before}
use Rattle.sparql_resolve.specs.declared.state.Before.TheVariants as before
use Rattle.sparql_resolve.specs.Iris.{iri_of}
use Rattle.iri_core.specs.Iris.{prefixed_iri}
use Rattle.sparql_resolve.specs.Marks.{mark_kind, short_mark, long_mark}
use Rattle.sparql_resolve.specs.Names.{most_names}
use Rattle.sparql_resolve.specs.Words.{word_kind, head_word, group_word, order_word, call_word, test_word, clause_word, expression_word, other_word, verb_or_unknown, kind_or, is_unsupported}
use Rattle.sparql_resolve.specs.Resolving.{State, Step, begin, needed, then', still, variable, variable_by, text, tag, blank_number, most_open, mark_by, word_by, label_by, declared, long_name_by, long_name, is_empty, name_by, name, kind_by, step, bytes_of, Resolving, resolving_by, resolve_from, token}
use Rattle.sparql_parser.proofs.Fitting.{Each, each_nil, each_push}

lt_true : (a b : ℕ) → nat_lt a b ≡ true → a < b
lt_true a b h = ltb-true a b h

module _ (names : List (List ℕ)) where
  -- a variable that a blank node has made, where so many are made
  pub record IsMade (blanks n : ℕ) : Type 0 where
    pub made : n < length names + blanks
    pub few : n < 65535

  pub record IsWritten (n : ℕ) : Type 0 where
    pub written : n < length names
    pub few : n < 65535

  abbrev pub Counts : ℕ → Kind → Type 0
  Counts blanks (kinds.Var n) = IsWritten n
  Counts blanks (kinds.Label n) = IsMade blanks n
  Counts blanks (kinds.OpenSquare n) = IsMade blanks n
  Counts blanks _ = Unit {0}

  abbrev CountsToken : ℕ → Token → Type 0
  CountsToken blanks t = Counts blanks t.kind

  later : (b c n : ℕ) → b ≤ c → IsMade b n → IsMade c n
  later b c n le h = record { made = let lt = h.made in omega (arith, lt, le); few = h.few }

  counts_later : (b c : ℕ) (k : Kind) → b ≤ c → Counts b k → Counts c k
  counts_later b c (kinds.Var n) le h = h
  counts_later b c (kinds.Label n) le h = later b c n le h
  counts_later b c (kinds.OpenSquare n) le h = later b c n le h
  counts_later b c k le h = tt

  -- each label's variable was made
  abbrev AllMade : ℕ → List (List ℕ × (ℕ × ℕ)) → Type 0
  AllMade b [] = Unit {0}
  AllMade b (e ∷ es) = IsMade b e.1.0 × AllMade b es

  all_later : (b c : ℕ) (es : List (List ℕ × (ℕ × ℕ))) → b ≤ c → AllMade b es → AllMade c es
  all_later b c [] le h = tt
  all_later b c (e ∷ es) le h = (later b c e.1.0 le h.0, all_later b c es le h.1)

  abbrev FoundMade : ℕ → Option (ℕ × ℕ) → Type 0
  FoundMade b None = Unit {0}
  FoundMade b (Some u) = IsMade b u.0

  found_if : (b : ℕ) (c : Bool) (u : ℕ × ℕ) (o : Option (ℕ × ℕ)) → IsMade b u.0 → FoundMade b o → FoundMade b (cond c (Some u) o)
  found_if b true u o h g = h
  found_if b false u o h g = g

  found : (b : ℕ) (test : List ℕ → Bool) (es : List (List ℕ × (ℕ × ℕ))) → AllMade b es → FoundMade b (lookup test es)
  found b test [] h = tt
  found b test (e ∷ es) h = found_if b (test e.0) e.1 (lookup test es) h.0 (found b test es h.1)

  put_if : (b : ℕ) (c : Bool) (e : List ℕ × (ℕ × ℕ)) (es more : List (List ℕ × (ℕ × ℕ))) (u : ℕ × ℕ) → IsMade b e.1.0 → AllMade b es → IsMade b u.0 → AllMade b more → AllMade b (if c then (e.0, u) ∷ es else e ∷ more)
  put_if b true e es more u h hs g gs = (g, hs)
  put_if b false e es more u h hs g gs = (h, gs)

  put : (b : ℕ) (es : List (List ℕ × (ℕ × ℕ))) (l : List ℕ) (u : ℕ × ℕ) → AllMade b es → IsMade b u.0 → AllMade b (insert_entry bytes_eq es l u)
  put b [] l u h g = (g, tt)
  put b (e ∷ es) l u h g = put_if b (bytes_eq l e.0) e es (insert_entry bytes_eq es l u) u h.0 h.1 g (put b es l u h.1 g)

  -- a step from so many blank nodes
  pub record Steps (b : ℕ) (k : Kind) (s : State) : Type 0 where
    pub more : b ≤ s.blanks
    pub labels : AllMade s.blanks s.labels
    pub counts : Counts s.blanks k

  abbrev Holds : ℕ → Step → Type 0
  Holds b (Ok x) = Steps b x.0 x.1
  Holds b (Err f) = Unit {0}

  abbrev HoldsKind : ℕ → Result Kind Fault → Type 0
  HoldsKind b (Ok k) = Counts b k
  HoldsKind b (Err f) = Unit {0}

  stays : (s : State) (k : Kind) → AllMade s.blanks s.labels → Counts s.blanks k → Steps s.blanks k s
  stays s k l c = record { more = omega arith; labels = l; counts = c }

  still_holds : (s : State) (r : Result Kind Fault) → AllMade s.blanks s.labels → HoldsKind s.blanks r → Holds s.blanks (still s r)
  still_holds s (Ok k) l h = stays s k l h
  still_holds s (Err f) l h = tt

  -- ---- what a token is

  bounded : (b n from : ℕ) (c : Bool) → nat_lt n most_names ≡ c → n < length names → HoldsKind b (if c then Ok (kinds.Var n) else Err (Syntax from))
  bounded b n from true e lt = record { written = lt; few = lt_true n most_names e }
  bounded b n from false e lt = tt

  positioned : (b from : ℕ) (o : Option ℕ) → ((i : ℕ) → o ≡ Some i → i < length names) → HoldsKind b (variable_by o from)
  positioned b from (Some n) h = bounded b n from (nat_lt n most_names) refl (h n refl)
  positioned b from None h = tt

  placed : (name : List ℕ) (i : ℕ) → position (bytes_eq name) names ≡ Some i → i < length names
  placed name i e = (position-Some (bytes_eq name) names i [] e).0

  variable_from : (b from : ℕ) (o : Option (List ℕ)) → HoldsKind b (then' (λ name. variable_by (position (bytes_eq name) names) from) (needed o from))
  variable_from b from (Some name) = positioned b from (position (bytes_eq name) names) (placed name)
  variable_from b from None = tt

  number_from : (b from : ℕ) (datatype : List ℕ) (touches : Bool) (o : Option (List ℕ)) → HoldsKind b (then' (λ lexical. Ok (kinds.Number datatype lexical touches)) (needed o from))
  number_from b from datatype touches (Some lexical) = tt
  number_from b from datatype touches None = tt

  text_from : (b from : ℕ) (o : Option (List ℕ)) → HoldsKind b (then' (λ t. Ok (kinds.Text t)) (needed o from))
  text_from b from (Some t) = tt
  text_from b from None = tt

  tag_from : (b from : ℕ) (o : Option (List ℕ)) → HoldsKind b (then' (λ t. Ok (kinds.Tag t)) (needed o from))
  tag_from b from (Some t) = tt
  tag_from b from None = tt

  -- ---- words and marks, which are no variables

  abbrev IsWord : Kind → Type 0
  IsWord (kinds.Var n) = ⊥
  IsWord (kinds.Label n) = ⊥
  IsWord (kinds.OpenSquare n) = ⊥
  IsWord _ = Unit {0}

  abbrev IsMark : Kind → Type 0
  IsMark (kinds.Var n) = ⊥
  IsMark (kinds.Label n) = ⊥
  IsMark _ = Unit {0}

  abbrev OrNone : Option Kind → Type 0
  OrNone None = Unit {0}
  OrNone (Some k) = IsWord k

  pick : (c : Bool) (k : Kind) (o : Option Kind) → IsWord k → OrNone o → OrNone (if c then Some k else o)
  pick true k o h g = h
  pick false k o h g = g

  either_word : (c : Bool) (k l : Kind) → IsWord k → IsWord l → IsWord (if c then k else l)
  either_word true k l h g = h
  either_word false k l h g = g

  either_mark : (c : Bool) (k l : Kind) → IsMark k → IsMark l → IsMark (if c then k else l)
  either_mark true k l h g = h
  either_mark false k l h g = g

  or_none : (o p : Option Kind) → OrNone o → OrNone p → OrNone (option_or o p)
  or_none (Some k) p h g = h
  or_none None p h g = g

  or_word : (o : Option Kind) (k : Kind) → OrNone o → IsWord k → IsWord (kind_or o k)
  or_word (Some l) k h g = h
  or_word None k h g = g

  head_plain : (w : List ℕ) → OrNone (head_word w)
  head_plain w = search (rules, pick)

  group_plain : (w : List ℕ) → OrNone (group_word w)
  group_plain w = search (rules, pick)

  order_plain : (w : List ℕ) → OrNone (order_word w)
  order_plain w = search (rules, pick)

  call_plain : (w : List ℕ) → OrNone (call_word w)
  call_plain w = search (rules, pick)

  test_plain : (w : List ℕ) → OrNone (test_word w)
  test_plain w = search (rules, pick)

  verb_plain : (w : List ℕ) → IsWord (verb_or_unknown w)
  verb_plain [] = tt
  verb_plain (b ∷ []) = either_word (b == 97) kinds.A kinds.Unknown tt tt
  verb_plain (b ∷ c ∷ cs) = tt

  word_plain : (w : List ℕ) → IsWord (word_kind w)
  word_plain w =
      or_word (clause_word w) _ (or_none (head_word w) _ (head_plain w) (or_none (group_word w) (order_word w) (group_plain w) (order_plain w)))
      (or_word (expression_word w) (other_word w) (or_none (call_word w) (test_word w) (call_plain w) (test_plain w)) (either_word (is_unsupported w) kinds.Unsupported (verb_or_unknown w) tt (verb_plain w)))

  long_plain : (b : ℕ) → IsMark (long_mark b)
  long_plain b = search (rules, either_mark)

  short_plain : (b : ℕ) → IsMark (short_mark b)
  short_plain b = search (rules, either_mark) depth 30

  mark_plain : (bytes : List ℕ) → IsMark (mark_kind bytes)
  mark_plain [] = tt
  mark_plain (a ∷ []) = short_plain a
  mark_plain (a ∷ b ∷ []) = long_plain a
  mark_plain (a ∷ b ∷ c ∷ cs) = tt

  -- ---- steps

  word_holds : (k : Kind) (s : State) → AllMade s.blanks s.labels → IsWord k → Holds s.blanks (word_by k s)
  word_holds (kinds.Var n) s l h = absurd h
  word_holds (kinds.Label n) s l h = absurd h
  word_holds (kinds.OpenSquare n) s l h = absurd h
  word_holds k s l h = record { more = omega arith; labels = l; counts = tt }

  brace_holds : (c d : Bool) (from : ℕ) (s : State) → AllMade s.blanks s.labels
      → Holds s.blanks (if c then (if d then Ok (kinds.OpenBrace, record s { open' = s.open' + 1; groups = s.groups + 1; brace = from }) else Err (Deep from)) else Err (Deep from))
  brace_holds true true from s l = record { more = omega arith; labels = l; counts = tt }
  brace_holds true false from s l = tt
  brace_holds false d from s l = tt

  paren_holds : (c : Bool) (from : ℕ) (s : State) → AllMade s.blanks s.labels → Holds s.blanks (if c then Ok (kinds.OpenParen, record s { open' = s.open' + 1 }) else Err (Deep from))
  paren_holds true from s l = record { more = omega arith; labels = l; counts = tt }
  paren_holds false from s l = tt

  made : (b : ℕ) → nat_lt (length names + b) most_names ≡ true → IsMade (b + 1) (length names + b)
  made b e = record { made = omega arith; few = lt_true (length names + b) most_names e }

  square_made : (c : Bool) (from : ℕ) (s : State) → nat_lt (length names + s.blanks) most_names ≡ c → AllMade s.blanks s.labels
      → Holds s.blanks (then' (λ n. Ok (kinds.OpenSquare n, record s { open' = s.open' + 1; blanks = s.blanks + 1 })) (if c then Ok (length names + s.blanks) else Err (Syntax from)))
  square_made true from s e l = record { more = omega arith; labels = all_later s.blanks (s.blanks + 1) s.labels (omega arith) l; counts = made s.blanks e }
  square_made false from s e l = tt

  square_holds : (c : Bool) (from : ℕ) (s : State) → AllMade s.blanks s.labels
      → Holds s.blanks (if c then then' (λ n. Ok (kinds.OpenSquare n, record s { open' = s.open' + 1; blanks = s.blanks + 1 })) (blank_number (length names) s.blanks from) else Err (Deep from))
  square_holds true from s l = square_made (nat_lt (length names + s.blanks) most_names) from s refl l
  square_holds false from s l = tt

  mark_holds : (k : Kind) (from : ℕ) (s : State) → AllMade s.blanks s.labels → IsMark k → Holds s.blanks (mark_by k (length names) from s)
  mark_holds (kinds.Var n) from s l h = absurd h
  mark_holds (kinds.Label n) from s l h = absurd h
  mark_holds kinds.OpenBrace from s l h = brace_holds (nat_lt s.open' most_open) (nat_lt s.groups 256) from s l
  mark_holds (kinds.OpenSquare n) from s l h = square_holds (nat_lt s.open' most_open) from s l
  mark_holds kinds.OpenParen from s l h = paren_holds (nat_lt s.open' most_open) from s l
  mark_holds k from s l h = record { more = omega arith; labels = l; counts = tt }

  label_made : (c : Bool) (text : List ℕ) (from : ℕ) (s : State) → nat_lt (length names + s.blanks) most_names ≡ c → AllMade s.blanks s.labels
      → Holds s.blanks (then' (λ n. Ok (kinds.Label n, record s { labels = insert_entry bytes_eq s.labels text (n, s.brace); blanks = s.blanks + 1 })) (if c then Ok (length names + s.blanks) else Err (Syntax from)))
  label_made true text from s e l =
      record {
        more = omega arith;
        labels = put (s.blanks + 1) s.labels text (length names + s.blanks, s.brace) (all_later s.blanks (s.blanks + 1) s.labels (omega arith) l) (made s.blanks e);
        counts = made s.blanks e;
      }
  label_made false text from s e l = tt

  label_again : (c : Bool) (n from : ℕ) (s : State) → AllMade s.blanks s.labels → IsMade s.blanks n → Holds s.blanks (if c then Ok (kinds.Label n, s) else Err (Syntax from))
  label_again true n from s l h = record { more = omega arith; labels = l; counts = h }
  label_again false n from s l h = tt

  label_holds : (o : Option (ℕ × ℕ)) (text : List ℕ) (from : ℕ) (s : State) → AllMade s.blanks s.labels → FoundMade s.blanks o → Holds s.blanks (label_by o text (length names) from s)
  label_holds (Some u) text from s l h = label_again (u.1 == s.brace) u.0 from s l h
  label_holds None text from s l h = label_made (nat_lt (length names + s.blanks) most_names) text from s refl l

  label_from : (o : Option (List ℕ)) (from : ℕ) (s : State) → AllMade s.blanks s.labels
      → Holds s.blanks (then' (λ l. label_by (lookup (bytes_eq l) s.labels) l (length names) from s) (needed o from))
  label_from (Some text) from s l = label_holds (lookup (bytes_eq text) s.labels) text from s l (found s.blanks (bytes_eq text) s.labels l)
  label_from None from s l = tt

  declared_holds : (b : Before) (iri : List ℕ) (s : State) → AllMade s.blanks s.labels → Holds s.blanks (Ok (kinds.IriRef iri, declared b iri s))
  declared_holds before.Other iri s l = record { more = omega arith; labels = l; counts = tt }
  declared_holds before.Base iri s l = record { more = omega arith; labels = l; counts = tt }
  declared_holds before.Prefix iri s l = record { more = omega arith; labels = l; counts = tt }
  declared_holds (before.Named prefix) iri s l = record { more = omega arith; labels = l; counts = tt }

  resolved_holds : (b : Before) (o : Option (List ℕ)) (from : ℕ) (s : State) → AllMade s.blanks s.labels → Holds s.blanks (then' (λ iri. Ok (kinds.IriRef iri, declared b iri s)) (needed o from))
  resolved_holds b (Some iri) from s l = declared_holds b iri s l
  resolved_holds b None from s l = tt

  iri_from : (b : Before) (o : Option (List ℕ)) (from : ℕ) (s : State) → AllMade s.blanks s.labels
      → Holds s.blanks (then' (λ t. then' (λ iri. Ok (kinds.IriRef iri, declared b iri s)) (needed (iri_of s.base t) from)) (needed o from))
  iri_from b (Some t) from s l = resolved_holds b (iri_of s.base t) from s l
  iri_from b None from s l = tt

  joined_from : (b : ℕ) (o : Option (List ℕ)) (from : ℕ) → HoldsKind b (then' (λ i. Ok (kinds.Name i)) (needed o from))
  joined_from b (Some i) from = tt
  joined_from b None from = tt

  long_from : (b : ℕ) (o : Option (List ℕ)) (local : List ℕ) (from : ℕ) → HoldsKind b (long_name_by o local from)
  long_from b (Some iri) local from = joined_from b (prefixed_iri iri local) from
  long_from b None local from = tt

  long_holds : (prefix local : List ℕ) (from : ℕ) (s : State) → AllMade s.blanks s.labels → Holds s.blanks (still s (long_name prefix local from s))
  long_holds prefix local from s l = still_holds s (long_name prefix local from s) l (long_from s.blanks (lookup (bytes_eq prefix) s.prefixes) local from)

  namespace_holds : (c : Bool) (prefix local : List ℕ) (from : ℕ) (s : State) → AllMade s.blanks s.labels
      → Holds s.blanks (if c then Ok (kinds.Namespace, record s { before = before.Named prefix }) else still s (long_name prefix local from s))
  namespace_holds true prefix local from s l = record { more = omega arith; labels = l; counts = tt }
  namespace_holds false prefix local from s l = long_holds prefix local from s l

  name_holds : (b : Before) (prefix local : List ℕ) (from : ℕ) (s : State) → AllMade s.blanks s.labels → Holds s.blanks (name_by b prefix local from s)
  name_holds before.Prefix prefix local from s l = namespace_holds (is_empty local) prefix local from s l
  name_holds before.Other prefix local from s l = long_holds prefix local from s l
  name_holds before.Base prefix local from s l = long_holds prefix local from s l
  name_holds (before.Named p) prefix local from s l = long_holds prefix local from s l

  name_from_texts : (b : Before) (o p : Option (List ℕ)) (from : ℕ) (s : State) → AllMade s.blanks s.labels
      → Holds s.blanks (then' (λ prefix. then' (λ local. name_by b prefix local from s) (needed p from)) (needed o from))
  name_from_texts b (Some prefix) (Some local) from s l = name_holds b prefix local from s l
  name_from_texts b (Some prefix) None from s l = tt
  name_from_texts b None p from s l = tt

  kind_holds : (q : QueryKind) (bytes : List ℕ) (from : ℕ) (b : Before) (touches : Bool) (s : State) → AllMade s.blanks s.labels → Holds s.blanks (kind_by q names bytes from b touches s)
  kind_holds lexed.Bad bytes from b touches s l = tt
  kind_holds lexed.End bytes from b touches s l = record { more = omega arith; labels = l; counts = tt }
  kind_holds lexed.Var bytes from b touches s l = still_holds s (variable names bytes from) l (variable_from s.blanks from (plain (variable_text bytes)))
  kind_holds lexed.IriRef bytes from b touches s l = iri_from b (plain (iri_text bytes)) from s l
  kind_holds lexed.Name bytes from b touches s l = name_from_texts b (plain (prefix_text bytes)) (plain (local_text bytes)) from s l
  kind_holds lexed.BlankLabel bytes from b touches s l = label_from (plain (label_text bytes)) from s l
  kind_holds lexed.Tag bytes from b touches s l = still_holds s (tag bytes from) l (tag_from s.blanks from (plain (tag_text bytes)))
  kind_holds lexed.Quoted bytes from b touches s l = still_holds s (text bytes from) l (text_from s.blanks from (plain (string_text bytes)))
  kind_holds lexed.Integer bytes from b touches s l = still_holds s _ l (number_from s.blanks from (codes "http://www.w3.org/2001/XMLSchema#integer") touches (plain bytes))
  kind_holds lexed.Decimal bytes from b touches s l = still_holds s _ l (number_from s.blanks from (codes "http://www.w3.org/2001/XMLSchema#decimal") touches (plain bytes))
  kind_holds lexed.Double bytes from b touches s l = still_holds s _ l (number_from s.blanks from (codes "http://www.w3.org/2001/XMLSchema#double") touches (plain bytes))
  kind_holds lexed.Word bytes from b touches s l = word_holds (word_kind bytes) s l (word_plain bytes)
  kind_holds lexed.Mark bytes from b touches s l = mark_holds (mark_kind bytes) from s l (mark_plain bytes)

  -- ---- all tokens

  pub record IsCounted (b : ℕ) (r : Resolving) : Type 0 where
    pub more : b ≤ r.blanks
    pub tokens : Each (CountsToken r.blanks) r.tokens

  each_later : (b c : ℕ) (ts : List Token) → b ≤ c → Each (CountsToken b) ts → Each (CountsToken c) ts
  each_later b c ts le h t i = counts_later b c t.kind le (h t i)

  counted_later : (b c : ℕ) (r : Resolving) → b ≤ c → IsCounted c r → IsCounted b r
  counted_later b c r le h = record { more = let m = h.more in omega (arith, m, le); tokens = h.tokens }

  after_step : (b from : ℕ) (out : List Token) (x : Step) (go : Kind → State → Resolving) → Holds b x → Each (CountsToken b) out
      → ((k : Kind) (next : State) → Steps b k next → Each (CountsToken next.blanks) (out ++ token k from ∷ []) → IsCounted next.blanks (go k next)) → IsCounted b (resolving_by x go out b)
  after_step b from out (Ok x) go h e f =
      counted_later b x.1.blanks (go x.0 x.1) h.more (f x.0 x.1 h (each_push (CountsToken x.1.blanks) out (token x.0 from) (each_later b x.1.blanks out h.more e) h.counts))
  after_step b from out (Err y) go h e f = record { more = omega arith; tokens = e }

  resolve_counts : (bytes : List ℕ) (s : State) (out : List Token) (ts : List QueryToken) → AllMade s.blanks s.labels → Each (CountsToken s.blanks) out → IsCounted s.blanks (resolve_from names bytes s out ts)
  unfolding resolve_from
  resolve_counts bytes s out [] l e = record { more = omega arith; tokens = e }
  resolve_counts bytes s out (t ∷ ts) l e =
      after_step s.blanks t.from out (step names (bytes_of bytes t) t s) (λ k next. resolve_from names bytes next (out ++ token k t.from ∷ []) ts)
      (kind_holds t.kind (bytes_of bytes t) t.from s.before (s.end == t.from) (record s { before = before.Other; end = t.to }) l) e
      (λ k next h g. resolve_counts bytes next (out ++ token k t.from ∷ []) ts h.labels g)

  pub all_counted : (bytes : List ℕ) (ts : List QueryToken) → IsCounted 0 (resolve_from names bytes begin [] ts)
  all_counted bytes ts = resolve_counts bytes begin [] ts tt (each_nil (CountsToken 0))
