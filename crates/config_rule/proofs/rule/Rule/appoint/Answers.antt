use Rattle.config_rule.proofs.Rising.{filled}
use Rattle.config_rule.proofs.rule.Rule.appoint.Goals as goal

pub keep-requires : goal.keep-requires
keep-requires c = filled c.args.self.now c.args.epoch c.args.primary c.args.members.now c.in_ok-cc.cc c.args.up c.in_ok-judge.ensures.lawful c.in_ok-cc.ensures
