use Rattle.std.proofs.Common.{◌≡◌, [], ◌++◌, length, take, sym, ap, ◌∙◌, rules}
use Rattle.std.proofs.Math.Seq.{take-nil}
use Rattle.algebra.proofs.Filled.{filled}
use Rattle.text.proofs.answers.filled.Goals as goal

pub returns : goal.returns
returns g c =
    let a = c.in_ok-resize_with.ensures.items in
    let none : take c.args.count c.new-table.result.items ≡ [] = rw c.new-table.ensures.items (take-nil c.args.count) in
    let counted : length c.resize_with.new.self.items ≡ c.args.count = search rules in
    let items : c.resize_with.new.self.items ≡ a.0 = a.2 ∙ ap (λ xs. xs ++ a.0) none in
    items ∙ filled _ c.args.value _ (λ y f' k. search rules) a.0 c.args.count (sym (ap length items) ∙ counted) (a.1, a.3)
