use Rattle.versioned_store.proofs.Changes.{same_chain}
use Rattle.versioned_store.proofs.steps.drop_empty.Goals as goal

pub returns-else-is_empty-clause-chain : goal.returns-else-is_empty-clause-chain
returns-else-is_empty-clause-chain c = same_chain c.args.chains.now.entries c.args.key.now
