use Rattle.web_port.specs.SiteWeb.{site_fetch}
use Rattle.answer_core.proofs.running.run_task.Given as goal

abbrev pub ghosts-run_named : goal.ghosts-run_named
ghosts-run_named g a = record {
  run = record {
    query = a.task.query;
    seeds = a.task.seeds;
    criterion = a.task.criterion;
    limit = a.task.limit;
    body = a.task.body;
    fetch = site_fetch a.site a.task.tries;
    content = g.S.Sink.content a.out;
    faults = g.S.Sink.faults a.out;
  };
}
