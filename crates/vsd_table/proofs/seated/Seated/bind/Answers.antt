use Rattle.std.proofs.Common.{true, refl}
use Rattle.vsd_table.specs.HandleKinds.{OwnWord}
use Rattle.vsd_table.proofs.HandleWords.{may_bind}
use Rattle.vsd_table.proofs.Seats.{packs_own, becomes}
use Rattle.vsd_table.proofs.seated.Seated.bind.Goals as goal

pub store-requires-clause-may : goal.store-requires-clause-may
store-requires-clause-may c =
    let packing = packs_own true c.word_of.result c.pack-word.result c.args.generation c.args.number c.word_of.ensures.value c.word_of.ensures.in_range c.pack-word.ensures.packing in
    may_bind c.args.table.now c.args.self.now c.requires.seat c.args.row c.handle_index-index.result c.handle_index-index.ensures.index c.args.generation c.args.number c.pack-word.result c.requires.own c.requires.next c.requires.typed packing

pub returns-clause-step : goal.returns-clause-step
returns-clause-step c =
    let packing = packs_own true c.word_of.result c.pack-word.result c.args.generation c.args.number c.word_of.ensures.value c.word_of.ensures.in_range c.pack-word.ensures.packing in
    let x : OwnWord = record { row = c.args.row; generation = c.args.generation; number = c.args.number } in
    becomes c.store.ensures.stays (c.store.ensures.learns x c.handle_index-index.ensures.index packing.packed refl packing.in_range).view

pub returns-clause-fresh : goal.returns-clause-fresh
returns-clause-fresh c =
    let packing = packs_own true c.word_of.result c.pack-word.result c.args.generation c.args.number c.word_of.ensures.value c.word_of.ensures.in_range c.pack-word.ensures.packing in
    let x : OwnWord = record { row = c.args.row; generation = c.args.generation; number = c.args.number } in
    (c.store.ensures.learns x c.handle_index-index.ensures.index packing.packed refl packing.in_range).fresh

pub returns-clause-one_binding : goal.returns-clause-one_binding
returns-clause-one_binding c =
    let packing = packs_own true c.word_of.result c.pack-word.result c.args.generation c.args.number c.word_of.ensures.value c.word_of.ensures.in_range c.pack-word.ensures.packing in
    let x : OwnWord = record { row = c.args.row; generation = c.args.generation; number = c.args.number } in
    (c.store.ensures.learns x c.handle_index-index.ensures.index packing.packed refl packing.in_range).one_binding
