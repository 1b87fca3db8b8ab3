-- What a slot's role says of its segment.
-- Source: this project's profile, over the kinds of the UCSD Pascal II.0 manual.
use Rattle.std.specs.Prelude.{Bool, true, false}
use Rattle.ps_codefile.specs.declared.entry.Role.{Role}
use Rattle.ps_codefile.specs.declared.entry.Role.TheVariants.{Empty, Wanted, Plain, Host, Unit}

-- a segment of the host, of a unit in place, or of a wanted unit: its references are resolved
abbrev pub needs_linking : Role → Bool
needs_linking Empty = false
needs_linking Wanted = true
needs_linking Plain = false
needs_linking Host = true
needs_linking Unit = true

-- the host's own segment
abbrev pub is_host : Role → Bool
is_host Empty = false
is_host Wanted = false
is_host Plain = false
is_host Host = true
is_host Unit = false

-- a unit, in place or wanted
abbrev pub is_unit : Role → Bool
is_unit Empty = false
is_unit Wanted = true
is_unit Plain = false
is_unit Host = false
is_unit Unit = true

-- a slot without a segment
abbrev pub is_empty : Role → Bool
is_empty Empty = true
is_empty Wanted = false
is_empty Plain = false
is_empty Host = false
is_empty Unit = false

-- a unit that is named but not in place: its code is that of a library
abbrev pub is_wanted : Role → Bool
is_wanted Empty = false
is_wanted Wanted = true
is_wanted Plain = false
is_wanted Host = false
is_wanted Unit = false
