-- The datatypes that computed terms have (XML Schema Definition Language 1.1 Part 2; RDF 1.1 Concepts, section 5.1).
use Rattle.std.specs.Prelude.{ℕ, List, codes}

abbrev pub string_type : List ℕ
string_type = codes "http://www.w3.org/2001/XMLSchema#string"

abbrev pub boolean_type : List ℕ
boolean_type = codes "http://www.w3.org/2001/XMLSchema#boolean"

abbrev pub integer_type : List ℕ
integer_type = codes "http://www.w3.org/2001/XMLSchema#integer"

abbrev pub decimal_type : List ℕ
decimal_type = codes "http://www.w3.org/2001/XMLSchema#decimal"
