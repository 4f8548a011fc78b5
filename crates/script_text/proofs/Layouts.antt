-- What the layouts of scripts have.
use Rattle.std.proofs.Common.{◌≤◌, refl, arith}
use Rattle.larch_actions.specs.declared.event.Layout.{Layout}
use Rattle.larch_actions.specs.declared.event.Version.{Version}
use Rattle.larch_actions.specs.declared.event.Version.TheVariants.{One, Two}
use Rattle.larch_actions.specs.declared.kind.Kind.TheVariants.{Thread}
use Rattle.larch_actions.specs.Layout.{IsLawful, layout_in, most_in}
use Rattle.larch_actions.proofs.Names.{few_of}
use Rattle.script_text.specs.Layouts.{IsLayoutIn, head_lines}

pub few_threads : (l : Layout) → IsLawful l → l.threads ≤ 256
few_threads l ok = few_of l ok Thread

some_in : (v : Version) → 1 ≤ most_in v
some_in One = omega arith
some_in Two = omega arith

pub some_layout : (v : Version) → (l : Layout) × IsLayoutIn v l
some_layout v = (
  layout_in v 1 0 0 0,
  record { lawful = record { some = omega arith; threads = some_in v; mutexes = omega arith; conditions = omega arith; semaphores = omega arith }; version = refl },
)

pub few_head : (v : Version) → head_lines v ≤ 2
few_head One = omega arith
few_head Two = omega arith
