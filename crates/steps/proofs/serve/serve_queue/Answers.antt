use Rattle.std.proofs.Common.{sym, ◌∙◌, arith}
use Rattle.std.proofs.lemmas.Bool.{eqb-false}
use Rattle.steps.proofs.Servings.{serve_waits, serve_none}
use Rattle.steps.proofs.Turns.{begins, none_is, stops, turn_of, in_range, some_left, waits_stops, grant_free, goes, recall_away, recall_free, recall_ends}
use Rattle.steps.proofs.serve.serve_queue.Goals as goal

pub loop-site-init : goal.loop-site-init
loop-site-init g c = begins c.requires.sound c.requires.free

pub grant-posted-requires : goal.grant-posted-requires
grant-posted-requires g c =
    let k = turn_of c.loop-site.invariant c.in-Some.ensures c.is_empty.ensures c.loop-site-test.true c.args.site.home_in in
    record { station = in_range k; queue = some_left k; free = grant_free k c.in-Grant.ensures }

pub loop-site-preserved : goal.loop-site-preserved
loop-site-preserved g c =
    let k = turn_of c.loop-site.invariant c.in-Some.ensures c.is_empty.ensures c.loop-site-test.true c.args.site.home_in in
    goes k c.in-Grant.ensures _ _ _ c.grant-posted.ensures.step c.grant-posted.ensures.posted

pub recall-posted-requires : goal.recall-posted-requires
recall-posted-requires g c =
    let k = turn_of c.loop-site.invariant c.in-Some.ensures c.is_empty.ensures c.loop-site-test.true c.args.site.home_in in
    record { away = recall_away k c.in-Recall.ensures; free = recall_free k c.in-Recall.ensures }

pub overflow_add-posted-in-Recall : goal.overflow_add-posted-in-Recall
overflow_add-posted-in-Recall g c =
    let k = turn_of c.loop-site.invariant c.in-Some.ensures c.is_empty.ensures c.loop-site-test.true c.args.site.home_in in
    let e = recall_ends k c.in-Recall.ensures _ _ c.recall-posted.ensures.lists c.recall-posted.ensures.posted c.recall-posted.ensures.added in
    omega (arith, e.1, k.going.few)

pub returns-after-loop-site : goal.returns-after-loop-site
returns-after-loop-site g c =
    let busy = eqb-false _ _ (sym c.is_empty.ensures ∙ c.loop-site-test.false) in
    let e = stops c.loop-site.invariant (serve_waits _ _ _ _ busy) in
    record { step = e.0; posted = e.1; counted = e.2; sound = c.loop-site.invariant.sound }

pub returns-in_default : goal.returns-in_default
returns-in_default g c =
    let e = stops c.loop-site.invariant (serve_none _ _ _ _ (none_is _ c.in_default.ensures)) in
    record { step = e.0; posted = e.1; counted = e.2; sound = c.loop-site.invariant.sound }

pub returns-in-Recall : goal.returns-in-Recall
returns-in-Recall g c =
    let k = turn_of c.loop-site.invariant c.in-Some.ensures c.is_empty.ensures c.loop-site-test.true c.args.site.home_in in
    let e = recall_ends k c.in-Recall.ensures _ _ c.recall-posted.ensures.lists c.recall-posted.ensures.posted c.recall-posted.ensures.added in
    record { step = e.0; posted = e.1; counted = e.2; sound = e.3 }

pub returns-in-Wait : goal.returns-in-Wait
returns-in-Wait g c =
    let k = turn_of c.loop-site.invariant c.in-Some.ensures c.is_empty.ensures c.loop-site-test.true c.args.site.home_in in
    let e = waits_stops k c.in-Wait.ensures in
    record { step = e.0; posted = e.1; counted = e.2; sound = c.loop-site.invariant.sound }
