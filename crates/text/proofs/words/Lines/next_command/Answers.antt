use Rattle.std.proofs.Common.{◌≡◌, true, false, map, sym, ap, ◌∙◌, rules}
use Rattle.text.proofs.FirstLine.{command_found, passed_over}
use Rattle.text.specs.Text.{words_of, is_command}
use Rattle.text.proofs.words.Lines.next_command.Goals as goal

pub returns-then-is_command-clause-command : goal.returns-then-is_command-clause-command
returns-then-is_command-clause-command c =
    let words = map (λ word. word.now) c.in_ok-words.words.items in
    let is : is_command words ≡ true = search rules in
    sym c.loop-line.invariant.1
    ∙ command_found c.loop-line.self.rest.now words c.next_line.new.self.rest.now (c.in_ok-words.ensures ∙ ap words_of c.in-Some.ensures.line) c.next_line.ensures.rest is

pub loop-line-preserved : goal.loop-line-preserved
loop-line-preserved c =
    let words = map (λ word. word.now) c.in_ok-words.words.items in
    let is : is_command words ≡ false = search rules in (
      search rules,
      passed_over c.loop-line.self.rest.now words c.next_line.new.self.rest.now (c.in_ok-words.ensures ∙ ap words_of c.in-Some.ensures.line) c.next_line.ensures.rest is
          ∙ c.loop-line.invariant.1,
    )
