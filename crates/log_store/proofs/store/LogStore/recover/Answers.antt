use Rattle.std.proofs.Common.{◌∙◌, sym, ap, subst, arith}
use Rattle.gated_log.specs.Log.{Log, IsSettled}
use Rattle.log_store.proofs.Opening.{both_mounted, mounted, same_then, same_begins, none_each, chosen_first, settled_still, opened_log}
use Rattle.log_store.proofs.Judging.{durable_log}
use Rattle.log_store.proofs.store.LogStore.recover.Goals as goal

pub begin-requires-clause-log : goal.begin-requires-clause-log
begin-requires-clause-log g c =
    let first = chosen_first c.in_ok-log0.zero c.in_ok-log1.one c.in_ok-log.log c.in_ok-log0.log0 c.in_ok-log1.log1 c.in_ok-log.kept c.in_ok-log.ensures.log c.in_ok-log.ensures.kept c.in-None.is in
    (ap (λ (l : Log). l.area) first ∙ c.in_ok-log0.ensures.log.0, ap (λ (l : Log). l.closed) first ∙ c.in_ok-log0.ensures.log.1)

pub begin-requires-clause-settled : goal.begin-requires-clause-settled
begin-requires-clause-settled g c =
    let middle = g.D.Disk.images c.mount.new.disk in
    let new = g.D.Disk.images c.mount-2.new.disk in
    let first = chosen_first c.in_ok-log0.zero c.in_ok-log1.one c.in_ok-log.log c.in_ok-log0.log0 c.in_ok-log1.log1 c.in_ok-log.kept c.in_ok-log.ensures.log c.in_ok-log.ensures.kept c.in-None.is in
    subst (λ (l : Log). IsSettled new l) (sym first) (settled_still middle new c.in_ok-log0.log0 c.in_ok-log0.ensures.log.0 c.in_ok-log0.ensures.settled c.mount-2.ensures.stop)

pub begin-requires-clause-none : goal.begin-requires-clause-none
begin-requires-clause-none g c =
    let middle = g.D.Disk.images c.mount.new.disk in
    let new = g.D.Disk.images c.mount-2.new.disk in
    let both = both_mounted middle new c.in_ok-log0.zero c.in_ok-log1.one c.in_ok-log0.ensures.placed c.in_ok-log1.ensures.placed c.mount-2.ensures.stop in
    none_each new c.in_ok-log0.zero c.in_ok-log1.one both c.in_ok-log.kept c.in_ok-log.ensures.kept c.in-None.is

pub returns-in-None-clause-stop : goal.returns-in-None-clause-stop
returns-in-None-clause-stop g c =
    let old = g.D.Disk.images c.args.disk.now in
    let middle = g.D.Disk.images c.mount.new.disk in
    let new = g.D.Disk.images c.mount-2.new.disk in
    let same = same_then old middle new (mounted old middle 0 (omega arith) c.mount.ensures.stop) (mounted middle new 1 (omega arith) c.mount-2.ensures.stop) in
    same_begins old new (g.D.Disk.images c.begin.new.disk) c.args.partition same c.begin.ensures.stop

pub returns-clause-opened : goal.returns-clause-opened
returns-clause-opened g c =
    let middle = g.D.Disk.images c.mount.new.disk in
    let new = g.D.Disk.images c.mount-2.new.disk in
    let both = both_mounted middle new c.in_ok-log0.zero c.in_ok-log1.one c.in_ok-log0.ensures.placed c.in_ok-log1.ensures.placed c.mount-2.ensures.stop in
    opened_log middle new c.in_ok-log0.zero c.in_ok-log1.one both c.in_ok-log.log c.in_ok-log0.log0 c.in_ok-log1.log1 c.in_ok-log0.ensures.log.0 c.in_ok-log1.ensures.log.0
    c.in_ok-log0.ensures.settled c.in_ok-log1.ensures.settled c.mount-2.ensures.stop c.in_ok-log.kept c.in-Some.identity c.in_ok-log.ensures.kept c.in-Some.is c.in_ok-log.ensures.log

pub returns-clause-log : goal.returns-clause-log
returns-clause-log g c = durable_log c.in_ok-log0.zero c.in_ok-log1.one c.in_ok-log.kept c.in_ok-log.ensures.kept
