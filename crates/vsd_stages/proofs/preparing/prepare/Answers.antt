use Rattle.std.proofs.Common.{◌≡◌, ℕ, ◌<◌, length, sym, subst, ◌∙◌, arith}
use Rattle.vsd_answers.specs.Answers.{CanAnswer, world}
use Rattle.vsd_compat.specs.Matrices.{bits_of}
use Rattle.vsd_itable.specs.BitList.{bit-below}
use Rattle.vsd_itable.specs.Tables.{cmp_of, sel_of, tokens_count, types_count}
use Rattle.vsd_lines.specs.Lines.{CanWrite, text_at, text_of}
use Rattle.vsd_stages.specs.Answered.{AreAnswers}
use Rattle.vsd_stages.specs.Noted.{AreTold}
use Rattle.vsd_stages.specs.Settling.{bytes_of}
use Rattle.vsd_stages.proofs.Readiness.{are_answers, can_answer, is_writable}
use Rattle.vsd_stages.proofs.preparing.prepare.Goals as goal

pub answer_lanes-requires : goal.answer_lanes-requires
answer_lanes-requires c =
    let v = c.args.tables.now in
    subst (CanAnswer (world (types_count v) (tokens_count v) (sel_of v) (cmp_of v)) c.args.script c.args.types.now) (sym c.deref.ensures.value)
    (can_answer v c.args.script c.args.types.now c.args.sites.items c.requires.formed c.requires.tabled)

pub returns-clause-writable : goal.returns-clause-writable
returns-clause-writable c =
    let v = c.args.tables.now in
    let methods = c.in_ok-method_texts.method_texts.items in
    let slots = c.in_ok-slot_texts.slot_texts.items in
    let made = rw c.deref.ensures.value at c.in_ok-answers.ensures in
    subst (CanWrite c.args.script c.args.sites.items (length methods) (length slots)) (sym made)
    (is_writable v c.method_texts.ensures.tables (bit-below (types_count v) (bits_of v.matrix)) c.args.script c.args.types.now c.args.sites.items c.requires.formed c.requires.tabled
    methods slots (λ t below. subst (AreTold v methods t) c.requires.tokens (c.in_ok-method_texts.ensures.told t below)) (c.in_ok-slot_texts.ensures.count ∙ c.requires.tokens)
    (λ k below. c.in_ok-slot_texts.ensures.texts k (let same = c.requires.tokens in omega (arith, below, same))))

pub returns-clause-answers : goal.returns-clause-answers
unfolding bytes_of
returns-clause-answers c =
    let v = c.args.tables.now in
    let methods = c.in_ok-method_texts.method_texts.items in
    let slots = c.in_ok-slot_texts.slot_texts.items in
    let made = rw c.deref.ensures.value at c.in_ok-answers.ensures in
    subst (λ answers. AreAnswers v.closed.decls c.args.script (text_of c.args.script c.args.sites.items (text_at methods) (text_at slots) answers)) (sym made)
    (are_answers v c.method_texts.ensures.tables (bit-below (types_count v) (bits_of v.matrix)) c.args.script c.args.types.now c.args.sites.items c.requires.formed c.requires.tabled
    methods slots (λ t below. subst (AreTold v methods t) c.requires.tokens (c.in_ok-method_texts.ensures.told t below)) (c.in_ok-slot_texts.ensures.count ∙ c.requires.tokens)
    (λ k below. c.in_ok-slot_texts.ensures.texts k (let same = c.requires.tokens in omega (arith, below, same))))
