-- The command as `clap` builds it, and what it makes of one use of an argument.
use Rattle.std.proofs.Common.{◌≡◌, ℕ, List, [], ◌∷◌, Some, None, refl}
use Rattle.std.specs.Prelude.{codes}
use Rattle.clap.specs.Simple.{Shape, built}
use Rattle.clap.specs.Walk.{Rule, arg_by_id, arg_by_index, arg_by_long, arg_by_short}
use Rattle.clap.specs.declared.builder.value_parser.ValueParser.TheVariants as vp
use Rattle.command_line.specs.Grammar.{Setting, Text, mergers, parsers, stop_after, walkers}
use Rattle.command_line.specs.Reading.{directory_rule, index_app, option_rule}

unfoldable pub rules : List Rule
rules = (built index_app).top.rules

abbrev pub shape : Shape
shape = record (built index_app).top { rules = rules }

-- an argument: DIR or an option
pub data Key : Type 0 where
  dir : Key
  set : Setting → Key

abbrev pub bare_name : Setting → Text
bare_name walkers = codes "walkers"
bare_name parsers = codes "parsers"
bare_name mergers = codes "mergers"
bare_name stop_after = codes "stop-after"

abbrev pub id_of : Key → Text
id_of dir = codes "dir"
id_of (set s) = bare_name s

abbrev one_value : Rule → Rule
one_value a = record a { parser = Some vp.String; range = Some (record { start_inclusive = 1; end_inclusive = 1 }) }

abbrev pub rule_at : Key → Rule
rule_at dir = record (one_value directory_rule) { index = Some 1 }
rule_at (set s) = one_value (option_rule (bare_name s))

pub rules-is : rules ≡ rule_at (set walkers) ∷ rule_at (set parsers) ∷ rule_at (set mergers) ∷ rule_at (set stop_after) ∷ rule_at dir ∷ []
unfolding rules
rules-is = refl

pub shape-is : (built index_app).top ≡ shape
unfolding rules
shape-is = refl

pub rule_by_place : arg_by_index rules 1 ≡ Some (rule_at dir)
unfolding rules
rule_by_place = refl

pub no_other_place : arg_by_index rules 2 ≡ None
unfolding rules
no_other_place = refl

pub rule_by_id : (k : Key) → arg_by_id rules (id_of k) ≡ Some (rule_at k)
unfolding rules
rule_by_id dir = refl
rule_by_id (set walkers) = refl
rule_by_id (set parsers) = refl
rule_by_id (set mergers) = refl
rule_by_id (set stop_after) = refl

pub rule_by_long : (s : Setting) → arg_by_long rules (bare_name s) ≡ Some (rule_at (set s))
unfolding rules
rule_by_long walkers = refl
rule_by_long parsers = refl
rule_by_long mergers = refl
rule_by_long stop_after = refl

pub no_rule_by_short : (c : ℕ) → arg_by_short rules c ≡ None
unfolding rules
no_rule_by_short c = refl
