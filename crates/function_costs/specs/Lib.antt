pub mod FunctionCosts
