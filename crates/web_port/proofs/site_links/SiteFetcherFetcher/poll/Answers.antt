use Rattle.web_port.proofs.SiteWebLemmas.{ok_polls_site, err_waits_site}
use Rattle.web_port.proofs.site_links.SiteFetcherFetcher.poll.Goals as goal

pub returns-clause-ok : goal.returns-clause-ok
returns-clause-ok c = ok_polls_site c.answer.result _ _ c.answer.ensures.kept c.answer.ensures.polled c.answer.ensures.state

pub returns-clause-err : goal.returns-clause-err
returns-clause-err c = err_waits_site c.answer.result _ _ c.answer.ensures.unchanged
