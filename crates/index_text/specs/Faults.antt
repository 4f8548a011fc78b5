-- Why an index isn't read.
use Rattle.std.specs.Prelude.{ℕ, ◌^◌, List}
use Rattle.std.specs.declared.option.Option.{Option}
use Rattle.exact_text.specs.declared.fault.TextFault.{TextFault}
use Rattle.exact_text.specs.Exact.{OrMemory, HasReason, bytes_room}
use Rattle.index_text.specs.Texts.{IsIndexText}

-- how many bytes a text may have where nothing else is said, and at most
abbrev pub budget : ℕ
budget = 67108864

abbrev pub most_bytes : ℕ
most_bytes = 2 ^ 40

-- why the index wasn't read as a text of at most so many bytes
abbrev pub HasReasonIn : ℕ → Option (List ℕ) → Option (List ℕ) → ℕ → ℕ → TextFault → Type 0
HasReasonIn most left left' before now fault = OrMemory (HasReason IsIndexText (bytes_room most) 0 left left' before now) fault
