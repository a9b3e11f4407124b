use Rattle.std.proofs.Common.{rules, tests, Some, None}
use Rattle.std.specs.Slice.Iter.{split_steps}
use Rattle.std.proofs.lemmas.Iterator.Splits.{YieldsList-from_slice_split}
use Rattle.text.specs.Text.{is_slash}
use Rattle.text.proofs.Slash.{around, two_yielded, three_yielded, one_yielded, none_yielded}
use Rattle.text.proofs.words.around_slash.Goals as goal
use Rattle.text.proofs.words.around_slash.Goals.{in_default-via-in-Some+in-Some+in_default, in_default-via-in-Some+in_default, in_default-via-in_default}

pub returns-in-Some-Some-None : goal.returns-in-Some-Some-None
returns-in-Some-Some-None c =
    let m = c.in-Some-Some-None in
    let told = around c.args.words.now (Some (m.first.now, m.second.now)) (two_yielded (split_steps _) (λ part. part.now) _ _ _ _ _ _ _ c.next.ensures.steps c.next-2.ensures.steps c.next-3.ensures.steps m.first m.second m.is-0 m.is-1 (search rules) _
    (YieldsList-from_slice_split _ (λ word. is_slash word.now) c.args.words.now c.split-parts.ensures.rest c.split-parts.ensures.done c.split-parts.ensures.closure (λ x b q k. search (rules, tests)))) in
    search rules

pub returns-in_default : goal.returns-in_default
returns-in_default c =
    elim c.in_default.branch [
      | in_default-via-in-Some+in-Some+in_default w ↦
          let m = w.in_default in
          let told = around c.args.words.now None (three_yielded (split_steps _) (λ part. part.now) _ _ _ _ _ _ _ c.next.ensures.steps c.next-2.ensures.steps c.next-3.ensures.steps m.field-0-0 m.field-0-1 m.field-0-2 m.is-0 m.is-1 (search rules) _
          (YieldsList-from_slice_split _ (λ word. is_slash word.now) c.args.words.now c.split-parts.ensures.rest c.split-parts.ensures.done c.split-parts.ensures.closure (λ x b q k. search (rules, tests)))) in
          search rules
      | in_default-via-in-Some+in_default w ↦
          let m = w.in_default in
          let told = around c.args.words.now None (one_yielded (split_steps _) (λ part. part.now) _ _ _ _ _ _ _ c.next.ensures.steps c.next-2.ensures.steps c.next-3.ensures.steps m.field-0-0 m.is-0 m.is-1 _
          (YieldsList-from_slice_split _ (λ word. is_slash word.now) c.args.words.now c.split-parts.ensures.rest c.split-parts.ensures.done c.split-parts.ensures.closure (λ x b q k. search (rules, tests)))) in
          search rules
      | in_default-via-in_default w ↦
          let told = around c.args.words.now None (none_yielded (split_steps _) (λ part. part.now) _ _ _ _ _ _ _ c.next.ensures.steps c.next-2.ensures.steps c.next-3.ensures.steps w.in_default.is-0 _
          (YieldsList-from_slice_split _ (λ word. is_slash word.now) c.args.words.now c.split-parts.ensures.rest c.split-parts.ensures.done c.split-parts.ensures.closure (λ x b q k. search (rules, tests)))) in
          search rules
    ]
