use Rattle.vsd_decl_syntax.proofs.Deciding.{decides_class, decides_passed}
use Rattle.vsd_decl_syntax.proofs.laws.items_are_decided.Goals as goal

pub returns-clause-classes : goal.returns-clause-classes
returns-clause-classes c = decides_class

pub returns-clause-passed : goal.returns-clause-passed
returns-clause-passed c = decides_passed
