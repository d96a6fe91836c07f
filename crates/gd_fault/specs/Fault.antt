-- Faults of JSON among those of a line, and codes of faults.
use Rattle.gd_defs.specs.Query as query
use Rattle.gd_json.specs.declared.from.JsonFault.{JsonFault}
use Rattle.gd_json.specs.declared.from.JsonFault.TheVariants as json_fault
use Rattle.gd_fault.specs.declared.fault.Code.{Code}
use Rattle.gd_fault.specs.declared.fault.Code.TheVariants as code
use Rattle.gd_fault.specs.declared.fault.LineFault.{LineFault}
use Rattle.gd_fault.specs.declared.fault.LineFault.TheVariants as fault

-- the same fault; want of memory is one fault alone
abbrev pub fault_of : JsonFault → LineFault
fault_of json_fault.Memory = fault.Memory
fault_of f = fault.Json f

-- the code that this is
abbrev pub code_view : Code → query.Code
code_view code.Envelope = query.envelope
code_view code.ListForm = query.list_form
code_view code.BadWord = query.bad_word
code_view code.LeftOut = query.left_out
code_view code.BadDirective = query.bad_directive
code_view code.BadOperand = query.bad_operand
code_view code.BadWrite = query.bad_write
code_view code.BadCreate = query.bad_create
code_view code.BadConnect = query.bad_connect
code_view code.BadValue = query.bad_value
code_view code.BadOperator = query.bad_operator
code_view code.ValueReversed = query.value_reversed
code_view code.ObjectForm = query.object_form
code_view code.BadSort = query.bad_sort
code_view code.NotMet = query.not_met
code_view code.BadPrevious = query.bad_previous
code_view code.BadLang = query.bad_lang
