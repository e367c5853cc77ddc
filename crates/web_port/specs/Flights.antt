-- The links that a fetcher has open.
use Rattle.std.specs.Prelude.{ℕ, ◌==◌, ◌+◌, List, [], ◌∷◌, None, if◌then◌else◌, map}
use Rattle.web_port.specs.declared.flight.Flight.{Flight}

abbrev pub flight_number : Flight → ℕ
flight_number x = x.number

abbrev pub numbers : List Flight → List ℕ
numbers xs = map flight_number xs

-- the failed tries of all of them together
abbrev pub failed_tries : List Flight → ℕ
failed_tries [] = 0
failed_tries (x ∷ xs) = x.failed + failed_tries xs

-- the links but for the first of this number
abbrev pub without : ℕ → List Flight → List Flight
without n [] = []
without n (x ∷ xs) = if x.number == n then xs else x ∷ without n xs

-- a link that was just started
abbrev pub fresh : ℕ → List ℕ → Flight
fresh n text = record { number = n; link = text; failed = 0; last = None }
