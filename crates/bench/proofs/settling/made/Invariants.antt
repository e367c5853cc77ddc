use Rattle.traverse_core.specs.Run.{no_run}
use Rattle.bench.proofs.settling.made.Given as goal

abbrev pub ghosts-made_for : goal.ghosts-made_for
ghosts-made_for a = record { run = no_run }
