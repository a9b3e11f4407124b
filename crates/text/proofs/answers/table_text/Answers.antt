use Rattle.std.proofs.Common.{◌≡◌, ◌+◌, ◌-◌, ◌<◌, [], ◌∷◌, ◌++◌, map, length, take, drop, string_bytes, sym, ap, ◌∙◌, arith, rules, ltb-false, ltb-true, leb-false, leb-true}
use Rattle.text.specs.Text.{others}
use Rattle.text.proofs.Spaces.{entry_more, entry_all, entry_first, no_entries}
use Rattle.text.proofs.answers.table_text.Goals as goal

pub returns-in_default : goal.returns-in_default
returns-in_default g c = c.new.ensures.bytes ∙ sym (no_entries g.P.Typed.text c.args.table.now (omega (arith, leb-true, leb-false, ltb-true, ltb-false)))

pub loop-entry-init : goal.loop-entry-init
loop-entry-init g c =
    let rest = take (length c.args.table.now - 1) (drop 1 c.args.table.now) in
    let h : 0 < length c.args.table.now = omega (arith, leb-true, leb-false, ltb-true, ltb-false) in
    ap (λ xs. xs ++ others (map g.P.Typed.text rest)) c.in_ok-text.ensures
    ∙ entry_first g.P.Typed.text c.args.table.now c.first-item.result h c.first-item.is

pub loop-entry-preserved : goal.loop-entry-preserved
loop-entry-preserved g c =
    let rest = take (length c.args.table.now - 1) (drop 1 c.args.table.now) in
    let h : c.loop-entry.entry-index < length rest = omega arith in
    let b : string_bytes c.push_str-in-loop-entry.new.self ≡ (string_bytes c.loop-entry.text ++ (32 ∷ [])) ++ g.P.Typed.text c.entry-item.result = search rules in
    ap (λ xs. xs ++ others (map g.P.Typed.text (drop (c.loop-entry.entry-index + 1) rest))) b
    ∙ entry_more g.P.Typed.text rest c.loop-entry.entry-index c.entry-item.result
    (string_bytes c.loop-entry.text) h c.entry-item.is
    ∙ c.loop-entry.invariant

pub returns : goal.returns
returns g c =
    let rest = take (length c.args.table.now - 1) (drop 1 c.args.table.now) in
    sym (entry_all g.P.Typed.text rest c.loop-entry.entry-index (string_bytes c.loop-entry.text) (omega arith))
    ∙ c.loop-entry.invariant
