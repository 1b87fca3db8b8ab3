-- The files of a check: their paths, by their numbers, and the order in which they are read.
use Rattle.std.specs.Prelude.{ℕ, List, [], ◌∷◌, slice_get, unwrap_or}
use Rattle.std.specs.Option.{option_map_or}
use Rattle.std.specs.Result.{result_ok}
use Rattle.ps_codefile.specs.Dictionary.{opened_alone}
use Rattle.ps_resolve.specs.Sources.{contents}
use Rattle.ps_check_segments.specs.declared.named_files.NamedFiles.{NamedFiles}
use Rattle.ps_words.specs.declared.order.Order.{Order}
use Rattle.ps_words.specs.declared.order.Order.TheVariants.{Little}

-- the paths of all files, the host first
abbrev pub paths_in : NamedFiles → List (List ℕ)
paths_in i = i.host_path.now ∷ contents i.paths.now

-- the path of a file: that of the host, or of the k-th library
abbrev pub path_of : List (List ℕ) → ℕ → List ℕ
path_of paths file = unwrap_or (slice_get paths file) []

-- the byte order of the host; little-endian where it shows none
abbrev pub host_order : List ℕ → Order
host_order host = option_map_or (λ f. f.order) (result_ok (opened_alone host)) Little
