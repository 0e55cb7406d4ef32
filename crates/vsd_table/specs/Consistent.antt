-- That all which a seat knows agrees.
use Rattle.vsd_rule.specs.declared.view.View.{View}
use Rattle.vsd_rule.specs.Facts.{KnowsOneBinding}
use Rattle.vsd_rule.specs.Evidence.{CallsAgree, CastsAgree}

-- All types that the seat knows a handle to name are one, and what each of its evidences says is the world's answer for them.
pub record IsConsistent (v : View) : Type 0 where
  pub bindings : KnowsOneBinding v.handles
  pub calls : CallsAgree v
  pub casts : CastsAgree v
