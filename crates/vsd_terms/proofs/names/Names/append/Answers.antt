use Rattle.std.proofs.Common.{◌≡◌, ℕ, length, sym, ap, ◌∙◌, arith}
use Rattle.std.proofs.lemmas.List.{length-map}
use Rattle.std.specs.Global.{Vec}
use Rattle.vsd_terms.proofs.KeyLemmas.{names_in-insert_key, AreNames-names_in, slice_get-push}
use Rattle.vsd_terms.proofs.names.Names.append.Goals as goal

pub invariant_of-self-2 : goal.invariant_of-self-2
invariant_of-self-2 c =
    AreNames-names_in c.insert.new.self.keys c.insert.ensures.unique (grind (arith, c.in-Ok-insert.ensures.len, c.len-count.ensures.len))

pub returns-clause-adds : goal.returns-clause-adds
returns-clause-adds c =
    names_in-insert_key c.self.inside.set.keys c.insert.new.self.keys c.in-Ok.key c.args.self.now c.args.name.now c.self.view_is c.in-Ok.ensures.items c.requires c.in-Ok-insert.ensures.keys

pub returns-clause-place : goal.returns-clause-place
returns-clause-place c =
    let e = names_in-insert_key c.self.inside.set.keys c.insert.new.self.keys c.in-Ok.key c.args.self.now c.args.name.now c.self.view_is c.in-Ok.ensures.items c.requires c.in-Ok-insert.ensures.keys in
    let count : c.len-count.result ≡ length c.args.self.now = c.len-count.ensures.len ∙ sym (length-map c.self.inside.set.keys (λ (v : Vec ℕ). v.items)) ∙ ap length c.self.view_is in
    let last = slice_get-push c.args.self.now c.args.name.now in
    cc
