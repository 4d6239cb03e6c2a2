-- The first place is the one that the library's search finds in the rest of the line.
use Rattle.std.proofs.Common.{rules, tests, ◌≡◌, ℕ, ◌+◌, ◌-◌, ◌≤◌, List, length, take, drop, ap, arith, length-drop}
use Rattle.std.proofs.Math.Seq.{take_all}
use Rattle.std.proofs.lemmas.Iterator.{YieldsList-from_slice}
use Rattle.std.proofs.lemmas.Iterator.Search.{position_from_yields_List}
use Rattle.grammar.specs.TableText.{until}
use Rattle.text_reader.specs.Walk.{blank_is}
use Rattle.text_reader.proofs.Parts.{first_place}
use Rattle.text_reader.proofs.fields.stop.Goals as goal

pub returns : goal.returns
returns c =
    let rest : List ℕ = drop c.args.at c.args.line.now in
    let n : ℕ = length c.args.line.now - c.args.at in
    let whole : take n rest ≡ rest = take_all n rest (omega (arith, length-drop c.args.at c.args.line.now)) in
    let p = blank_is c.args.blank in
    let found : (c.unwrap_or.result ≡ until p (take n rest)) × (c.unwrap_or.result ≤ length (take n rest)) =
    first_place p (take n rest) c.position.result _
    (position_from_yields_List _ _ _ _ c.position.ensures.ran (YieldsList-from_slice (take n rest) c.iter.ensures.rest)
    (λ x b q k. search (rules, tests)))
    c.unwrap_or.ensures in
    let there = rw whole at found in
    (ap (λ (m : ℕ). c.args.at + m) there.0, omega (arith, there.1, length-drop c.args.at c.args.line.now))
