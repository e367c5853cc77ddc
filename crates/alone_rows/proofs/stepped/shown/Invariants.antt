use Rattle.std.specs.Prelude.{None, Some, false}
use Rattle.reach_criteria.specs.declared.criterion.Criterion.TheVariants as criterion
use Rattle.alone_rows.proofs.stepped.shown.Given as goal

abbrev pub ghosts-run_calls : goal.ghosts-run_calls
ghosts-run_calls a = record {
  run = record {
    query = a.query;
    seeds = a.seeds.items;
    criterion = criterion.All;
    limit = 100;
    body = 0;
    fetch = record { web = None; tries = 0; sure = false };
    content = Some a.out.content;
    faults = a.out.faults;
  };
}
