use Rattle.std.specs.Prelude.{Some}
use Rattle.reach_criteria.specs.declared.criterion.Criterion.TheVariants as criterion
use Rattle.web_port.specs.MemoryWeb.{fetch_of}
use Rattle.alone_rows.proofs.runs.shown_query.Given as goal

abbrev pub ghosts-run_named : goal.ghosts-run_named
ghosts-run_named a = record {
  run = record {
    query = a.query;
    seeds = a.seeds.items;
    criterion = criterion.None;
    limit = a.limit;
    body = 1048576;
    fetch = fetch_of a.fetcher.now.web a.fetcher.now.tries a.fetcher.now.fails;
    content = Some a.out.content;
    faults = a.out.faults;
  };
}
