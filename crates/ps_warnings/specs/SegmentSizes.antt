-- How large the data of a segment are, and where its link information ends in the file.
use Rattle.std.specs.Prelude.{ℕ, ◌+◌, ◌*◌, if◌then◌else◌, List, length, nat_lt, false, Option, None, option_and_then}
use Rattle.std.specs.Result.{result_ok}
use Rattle.ps_words.specs.Words.{blocks}
use Rattle.ps_words.specs.declared.order.Order.{Order}
use Rattle.ps_codefile.specs.Dictionary.{information_of}
use Rattle.ps_codefile.specs.Procedures.{outer_data_size, read_tables}
use Rattle.ps_codefile.specs.declared.entry.Entry.{Entry}
use Rattle.ps_linkinfo.specs.Records.{reading, used_by}

-- the data size of the outer block of a code, in bytes, where its procedure tables can be read
unfoldable pub data_size : Order → List ℕ → Option ℕ
data_size order code = if nat_lt (length code) 2 then None
    else option_and_then (λ t. outer_data_size t.order t.code)
    (result_ok (read_tables order code false))

-- where the link information of an entry ends, up to the first record that cannot be read
abbrev pub information_end : Order → List ℕ → Entry → ℕ
information_end order bytes e = 512 * (e.address + blocks e.length)
    + used_by (reading order (information_of bytes e)).0
