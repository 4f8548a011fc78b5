-- Bounds over all kinds of names.
use Rattle.std.proofs.Common.{◌≡◌, ◌≤◌, subst, arith}
use Rattle.larch_actions.specs.declared.event.Version.{Version}
use Rattle.larch_actions.specs.declared.event.Version.TheVariants.{One, Two}
use Rattle.larch_actions.specs.declared.event.Layout.{Layout}
use Rattle.larch_actions.specs.declared.kind.Kind.{Kind}
use Rattle.larch_actions.specs.declared.kind.Kind.TheVariants.{Mutex, Condition, Semaphore, Thread}
use Rattle.larch_actions.specs.Layout.{IsLawful, count_of, letter, most_in}

-- there are few things of each kind
pub few_threads : (v : Version) → most_in v ≤ 256
few_threads One = omega arith
few_threads Two = omega arith

pub few_of : (l : Layout) → IsLawful l → (k : Kind) → count_of l k ≤ 256
few_of l ok Mutex = omega (arith, ok.mutexes)
few_of l ok Condition = omega (arith, ok.conditions)
few_of l ok Semaphore = omega (arith, ok.semaphores)
few_of l ok Thread = omega (arith, ok.threads, few_threads l.version)

-- there are fewer in version one
pub few_in_one : (l : Layout) → IsLawful l → l.version ≡ One → l.threads ≤ 64
few_in_one l ok one = subst (λ (v : Version). l.threads ≤ most_in v) one ok.threads

-- a letter stands after the digits, the space and the newline
pub letter_high : (k : Kind) → 97 ≤ letter k
letter_high Mutex = omega arith
letter_high Condition = omega arith
letter_high Semaphore = omega arith
letter_high Thread = omega arith

pub letter_low : (k : Kind) → letter k ≤ 122
letter_low Mutex = omega arith
letter_low Condition = omega arith
letter_low Semaphore = omega arith
letter_low Thread = omega arith
