pub mod MitigationTable
