use Rattle.std.proofs.Common.{◌∙◌, List, ap, length, subst, sym, arith}
use Rattle.std.specs.FinMap.{empty}
use Rattle.std.proofs.lemmas.List.{get_or_read}
use Rattle.plain_map.specs.declared.keys.Key.{Key}
use Rattle.plain_map.specs.PlainObject.{Sessions, class_of}
use Rattle.class_map.specs.Rows.{HasEachClass, Holds}
use Rattle.class_map.proofs.RowLemmas.{answered, refused, still_each_class}
use Rattle.class_map.proofs.rows.ClassMap.answer.Goals as goal

pub returns-clause-rows : goal.returns-clause-rows
returns-clause-rows c =
    still_each_class c.self.inside.rows.items c.args.rules.now _ _
    (subst (λ (rows : List Sessions). HasEachClass rows c.args.rules.now) (sym c.self.view_is) c.requires.rows)

pub returns-clause-reply : goal.returns-clause-reply
returns-clause-reply c = λ sessions holds.
    answered c.prefix_laws.ensures.none c.answer_laws.ensures.replies c.answer_laws.ensures.changes
    c.answer_laws.ensures.others
    c.self.inside.rows.items c.args.rules.now sessions c.args.call.now c.class_of-class.result c.index_mut.result.now
    c.answer.new.self c.answer.result
    (subst (λ (rows : List Sessions). Holds rows c.args.rules.now sessions) (sym c.self.view_is) holds)
    (sym (c.class_of-class.ensures.value ∙ ap (λ (key : Key). class_of c.args.rules.now key) c.key.ensures))
    (omega (arith, ap length c.self.view_is))
    (get_or_read c.self.inside.rows.items _ _ (omega (arith, ap length c.self.view_is)) c.index_mut.ensures.value empty)
    (rw c.own_rules.ensures.rules at c.answer.ensures.reply)
    (rw c.own_rules.ensures.rules at c.answer.ensures.change)

pub returns-clause-err : goal.returns-clause-err
returns-clause-err c = λ sessions holds.
    refused c.self.inside.rows.items c.args.rules.now sessions c.args.call.now c.class_of-class.result
    c.index_mut.result.now c.answer.new.self c.answer.result
    (subst (λ (rows : List Sessions). Holds rows c.args.rules.now sessions) (sym c.self.view_is) holds)
    (sym (c.class_of-class.ensures.value ∙ ap (λ (key : Key). class_of c.args.rules.now key) c.key.ensures))
    (omega (arith, ap length c.self.view_is))
    (get_or_read c.self.inside.rows.items _ _ (omega (arith, ap length c.self.view_is)) c.index_mut.ensures.value empty)
    c.answer.ensures.err c.answer.ensures.err_only_at_new
