use Rattle.std.proofs.Common.{refl}
use Rattle.kms_server.proofs.Crews.{house_left}
use Rattle.kms_server.proofs.worker.attend.Goals as goal

pub returns : goal.returns
returns g c = record {
  met = c.catch_up.new.self;
  learns = c.catch_up.ensures.learns;
  end = c.serve_session-end.result;
  left = c.serve_session-end.new.pass;
  told = g.C.Clock.told c.serve_session-end.new.clock;
  last = g.E.Conn.Link.shows c.serve_session-end.new.link;
  ends = c.serve_session-end.ensures.ends;
  complete = c.serve_session-end.ensures.complete;
  back = c.done.ensures;
  moment = c.now-moment.result;
  before_year_10000 = c.now-moment.ensures.bound;
  tells = c.now-moment.ensures.told;
  house = house_left c.keep_house.result _ _ _ c.keep_house.ensures.kept c.keep_house.ensures.wants;
  taken = refl;
}
