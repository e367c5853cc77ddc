use Rattle.std.specs.Prelude.{None, Some, false}
use Rattle.reach_criteria.specs.declared.criterion.Criterion.TheVariants as criterion
use Rattle.bench.proofs.settling.settled.Given as goal

abbrev pub ghosts-followed : goal.ghosts-followed
ghosts-followed a = record {
  run = record {
    query = a.query;
    seeds = a.seeds.items;
    criterion = criterion.All;
    limit = 1000000;
    body = 0;
    fetch = record { web = None; tries = 0; sure = false };
    content = Some a.out.content;
    faults = a.out.faults;
  };
}
