-- Logs of what was called, which there are as long as memory suffices.
use Rattle.std.specs.Prelude.{◌≡◌, ⊤, List, ◌++◌, Option, Some, None}

-- There is no log any more, or it is the older one with these entries behind.
abbrev pub Extends : {T : Type 0} → Option (List T) → List T → Option (List T) → Type 0
Extends old more None = ⊤
Extends None more (Some entries) = ⊥
Extends (Some before) more (Some entries) = entries ≡ before ++ more
