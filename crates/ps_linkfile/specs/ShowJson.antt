-- What a code file has, as JSON: the rows of a show as items.
-- Source: RFC 8259; which members there are is this project's profile.
use Rattle.std.specs.Prelude.{ℕ, List, [], ◌++◌, codes}
use Rattle.std.specs.List.{flat_map}
use Rattle.ps_words.specs.declared.order.Order.{Order}
use Rattle.ps_words.specs.declared.order.Order.TheVariants.{Little, Big}
use Rattle.ps_codefile.specs.Dictionary.{slots, FileOrder, Zero, Ordered, Mixed, file_order, entry_at}
use Rattle.ps_resolve.specs.Sources.{known_order}
use Rattle.ps_linkfile.specs.ShowText.{entry_in, links_in, show_of}
use Rattle.ps_writing.specs.declared.rows.Form.{Form}
use Rattle.ps_writing.specs.declared.rows.Form.TheVariants.{Lines, Json}

-- the byte order that is shown, and what is before the items of the slots
abbrev pub order_member : FileOrder → List ℕ
order_member Zero = codes "{\"order\":\"unknown\",\"slots\":["
order_member (Ordered Little) = codes "{\"order\":\"little\",\"slots\":["
order_member (Ordered Big) = codes "{\"order\":\"big\",\"slots\":["
order_member Mixed = []

-- the item of a slot
unfoldable pub slot_item : Order → List ℕ → ℕ → List ℕ
slot_item order file slot = entry_in Json slot (entry_at order file slot)
    ++ links_in Json order file slot ++ codes "}"

-- the document of a file that shows this order, and whose words are read in that one
abbrev pub shown_json : FileOrder → Order → List ℕ → List ℕ
shown_json found order file = order_member found ++ flat_map (slot_item order file) slots
    ++ codes "\n]}\n"

-- the document of a code file
unfoldable pub show_json_of : List ℕ → List ℕ
show_json_of file = shown_json (file_order file) (known_order (file_order file)) file

-- the show in one of its forms
abbrev pub show_as : Form → List ℕ → List ℕ
show_as Lines file = show_of file
show_as Json file = show_json_of file
